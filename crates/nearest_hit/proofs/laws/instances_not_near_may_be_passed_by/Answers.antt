use Rattle.nearest_hit.proofs.Corners.{no_hits, passed_by}
use Rattle.nearest_hit.proofs.laws.instances_not_near_may_be_passed_by.Goals as goal

pub returns : goal.returns
returns c = record { none = no_hits; nearest = passed_by }
