use Rattle.std.proofs.Common.{w32, FitsSigned, arith}
use Rattle.std.proofs.lemmas.Int.{ints, to_z-of_z}
use Rattle.fx_math.proofs.Sines.{sine_first, sine_second}
use Rattle.fx_math.proofs.angles.wave.Goals as goal

pub returns-then-part-le-HALF_TURN-clause-value : goal.returns-then-part-le-HALF_TURN-clause-value
returns-then-part-le-HALF_TURN-clause-value c = grind (arith, to_z-of_z, sine_first)

pub returns-else-part-le-HALF_TURN-clause-value : goal.returns-else-part-le-HALF_TURN-clause-value
returns-else-part-le-HALF_TURN-clause-value c =
    let fits : FitsSigned w32 c.args.x = c.ranges.x in
    let part = simp to_z-of_z at c.part_of_turn-part.ensures.value in
    omega (arith, ints, sine_second c.args.x c.part_of_turn-part.result part c.if-part-le-HALF_TURN.false)
