use Rattle.cull_walk.proofs.OneOrder.{one_order}
use Rattle.cull_walk.proofs.laws.draw_order_is_one.Goals as goal

pub returns : goal.returns
returns c = one_order
