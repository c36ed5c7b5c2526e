use Rattle.std.proofs.Common.{◌∙◌, sym, ap}
use Rattle.std.specs.Prelude.{map}
use Rattle.fx_math.specs.Views.{bounds_of, matrix_of}
use Rattle.fx_math.specs.Fixed.{carry_box}
use Rattle.nearest_hit.specs.declared.way.Way.{Way}
use Rattle.nearest_hit.specs.Ways.{matrices, steps_along}
use Rattle.nearest_hit.proofs.Along.{box_along}
use Rattle.nearest_hit.proofs.way.Way.+eye_box.Goals as goal

pub returns-in-Below : goal.returns-in-Below
returns-in-Below t c =
    box_along (map matrix_of c.as_slice-steps.result.now) (matrices c.in-Below.own) (steps_along c.in-Below.above.now)
    (bounds_of c.args.b.now) (bounds_of c.carried_box-around.result) (bounds_of c.eye_box.result) c.as_slice-steps.ensures c.carried_box-around.ensures c.eye_box.ensures
    ∙ ap (λ (w : Way). carry_box (steps_along w) (bounds_of c.args.b.now)) (sym c.in-Below.is)
