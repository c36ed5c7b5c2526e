use Rattle.std.proofs.Common.{arith}
use Rattle.std.proofs.lemmas.Int.{to_z-of_z}
use lib.IntN.{+ℤ_idr}
use Rattle.fx_math.specs.Fixed.{moved}
use Rattle.draw_list.proofs.sums.narrowed.Goals as goal

pub returns-clause-value : goal.returns-clause-value
unfolding moved
returns-clause-value c = grind (arith, to_z-of_z, +ℤ_idr)
