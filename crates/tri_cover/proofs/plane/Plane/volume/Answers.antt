use Rattle.std.proofs.Common.{arith}
use Rattle.std.proofs.lemmas.Int.{to_z-of_z}
use Rattle.tri_cover.specs.Planes.{product}
use Rattle.tri_cover.proofs.plane.Plane.volume.Goals as goal

pub returns-clause-value : goal.returns-clause-value
unfolding product
returns-clause-value c = grind (arith, to_z-of_z)
