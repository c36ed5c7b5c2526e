use Rattle.cull_walk.proofs.Drawing.{any_order, drawn_list}
use Rattle.cull_walk.proofs.laws.culling_keeps_the_picture.Goals as goal

pub returns : goal.returns
returns c = record { list = drawn_list; any_order = any_order }
