use Rattle.cull_walk.proofs.Corners.{outside_missed}
use Rattle.cull_walk.proofs.laws.instances_outside_hit_nothing.Goals as goal

pub returns : goal.returns
returns c = outside_missed
