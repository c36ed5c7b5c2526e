use Rattle.std.proofs.Common.{arith}
use Rattle.std.proofs.lemmas.Int.{to_z-of_z}
use Rattle.fx_math.specs.Fixed.{least_dot, greatest_dot}
use Rattle.fx_math.proofs.moves.sum_ends.Goals as goal

pub returns-clause-least : goal.returns-clause-least
unfolding least_dot
returns-clause-least c = grind (arith, to_z-of_z)

pub returns-clause-greatest : goal.returns-clause-greatest
unfolding greatest_dot
returns-clause-greatest c = grind (arith, to_z-of_z)
