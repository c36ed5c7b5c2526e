use Rattle.std.proofs.Common.{arith}
use Rattle.std.proofs.lemmas.Int.{to_z-of_z}
use Rattle.tri_cover.specs.Planes.{cross}
use Rattle.tri_cover.proofs.plane.Plane.through.Goals as goal

pub returns : goal.returns
unfolding cross
returns c = grind (arith, to_z-of_z)
