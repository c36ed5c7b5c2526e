use Rattle.std.proofs.Common.{arith}
use Rattle.std.proofs.lemmas.Int.{to_z-of_z}
use Rattle.fx_math.specs.Hit.{ray}
use Rattle.tri_cover.proofs.ray.ray.Goals as goal

pub returns-clause-value : goal.returns-clause-value
unfolding ray
returns-clause-value c = grind (arith, to_z-of_z)
