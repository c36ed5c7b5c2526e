use Rattle.std.proofs.Common.{arith}
use Rattle.std.proofs.lemmas.Int.{to_z-of_z}
use Rattle.fx_math.specs.Fixed.{apply}
use Rattle.fx_math.proofs.moves.apply.Goals as goal

pub returns : goal.returns
unfolding apply
returns c = grind (arith, to_z-of_z)
