use Rattle.std.proofs.Common.{arith}
use Rattle.std.proofs.lemmas.Int.{to_z-of_z}
use Rattle.fx_math.specs.Fixed.{dot}
use Rattle.fx_math.proofs.moves.dot.Goals as goal

pub returns-clause-value : goal.returns-clause-value
unfolding dot
returns-clause-value c = grind (arith, to_z-of_z)
