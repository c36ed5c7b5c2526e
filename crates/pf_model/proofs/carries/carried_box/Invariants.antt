use Rattle.std.proofs.Common.{◌≡◌, drop}
use Rattle.std.specs.Prelude.{map}
use Rattle.fx_math.specs.Views.{bounds_of, matrix_of}
use Rattle.fx_math.specs.Fixed.{carry_box}
use Rattle.pf_model.proofs.carries.carried_box.Given as goal

abbrev pub invariant-loop-step : goal.invariant-loop-step
invariant-loop-step l = carry_box (map matrix_of (drop l.step-index l.steps)) (bounds_of l.carried) ≡ carry_box (map matrix_of l.steps) (bounds_of l.fn.b)
