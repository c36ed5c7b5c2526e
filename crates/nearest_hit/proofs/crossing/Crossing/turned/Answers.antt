use Rattle.std.proofs.Common.{arith}
use Rattle.std.proofs.lemmas.Int.{to_z-of_z}
use Rattle.nearest_hit.proofs.crossing.Crossing.turned.Goals as goal

pub returns-clause-edges : goal.returns-clause-edges
returns-clause-edges c = grind (arith, to_z-of_z)
