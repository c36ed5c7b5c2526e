use Rattle.std.proofs.Common.{arith}
use Rattle.std.proofs.lemmas.Int.{ints}
use Rattle.fx_math.specs.Steps.{half_wave}
use Rattle.fx_math.proofs.Sines.{half_wave-le}
use Rattle.fx_math.proofs.angles.half_wave.Goals as goal

pub returns-clause-value : goal.returns-clause-value
unfolding half_wave
returns-clause-value c = omega (arith, ints, half_wave-le c.args.x c.requires)

pub returns-clause-bound : goal.returns-clause-bound
unfolding half_wave
returns-clause-bound c = record { size = omega (arith, ints, half_wave-le c.args.x c.requires) }
