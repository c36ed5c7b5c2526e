use Rattle.depth_raster.proofs.GlassInOrder.{joined_more, turn_more, turn_adds_up, glass_last}
use Rattle.depth_raster.proofs.laws.pieces_of_a_list.Goals as goal

pub returns : goal.returns
returns c = record { more = joined_more; glass_more = turn_more; adds_up = turn_adds_up; glass_last = glass_last }
