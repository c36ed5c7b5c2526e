use Rattle.nearest_hit.proofs.Touching.{hit_touches}
use Rattle.nearest_hit.proofs.laws.hits_lie_in_both_boxes.Goals as goal

pub returns : goal.returns
returns c = hit_touches
