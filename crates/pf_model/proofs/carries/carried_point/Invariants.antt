use Rattle.std.proofs.Common.{◌≡◌, drop}
use Rattle.std.specs.Prelude.{map}
use Rattle.fx_math.specs.Views.{point_of, matrix_of}
use Rattle.fx_math.specs.Fixed.{carry}
use Rattle.pf_model.proofs.carries.carried_point.Given as goal

abbrev pub invariant-loop-step : goal.invariant-loop-step
invariant-loop-step l = carry (map matrix_of (drop l.step-index l.steps)) (point_of l.carried) ≡ carry (map matrix_of l.steps) (point_of l.fn.v)
