use Rattle.std.proofs.Common.{arith}
use Rattle.std.proofs.lemmas.Int.{to_z-of_z}
use Rattle.fx_math.specs.Hit.{edges}
use Rattle.nearest_hit.proofs.crossing.Crossing.of_sides.Goals as goal

pub returns-clause-edges : goal.returns-clause-edges
unfolding edges
returns-clause-edges c = grind (arith, to_z-of_z)
