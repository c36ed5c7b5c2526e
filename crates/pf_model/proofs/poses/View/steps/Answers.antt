use Rattle.std.proofs.Common.{arith}
use Rattle.std.proofs.lemmas.Int.{to_z-of_z}
use Rattle.pf_model.proofs.poses.View.steps.Goals as goal

pub returns : goal.returns
returns c = rw (← c.self.view_is) (grind (arith, to_z-of_z))
