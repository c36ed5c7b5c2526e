use Rattle.std.proofs.Common.{arith}
use Rattle.std.proofs.lemmas.Int.{to_z-of_z}
use Rattle.fx_math.specs.Hit.{det3}
use Rattle.fx_math.proofs.exact.det.Goals as goal

pub returns-clause-value : goal.returns-clause-value
unfolding det3
returns-clause-value c = grind (arith, to_z-of_z)
