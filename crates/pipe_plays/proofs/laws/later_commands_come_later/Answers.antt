use Rattle.pipe_plays.proofs.Orders.{order_law}
use Rattle.pipe_plays.proofs.laws.later_commands_come_later.Goals as goal

pub returns : goal.returns
returns c = order_law
