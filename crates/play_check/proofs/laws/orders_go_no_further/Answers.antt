use Rattle.play_check.proofs.Orders.{no_further}
use Rattle.play_check.proofs.laws.orders_go_no_further.Goals as goal

pub returns : goal.returns
returns c = no_further
