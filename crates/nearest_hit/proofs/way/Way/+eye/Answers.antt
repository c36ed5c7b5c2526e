use Rattle.std.proofs.Common.{◌∙◌, sym, ap}
use Rattle.std.specs.Prelude.{map}
use Rattle.fx_math.specs.Views.{point_of, matrix_of}
use Rattle.fx_math.specs.Fixed.{carry}
use Rattle.nearest_hit.specs.declared.way.Way.{Way}
use Rattle.nearest_hit.specs.Ways.{matrices, steps_along}
use Rattle.nearest_hit.proofs.Along.{point_along}
use Rattle.nearest_hit.proofs.way.Way.+eye.Goals as goal

pub returns-in-Below : goal.returns-in-Below
returns-in-Below t c =
    point_along (map matrix_of c.as_slice-steps.result.now) (matrices c.in-Below.own) (steps_along c.in-Below.above.now)
    (point_of c.args.v) (point_of c.carried_point-point.result) (point_of c.eye.result) c.as_slice-steps.ensures c.carried_point-point.ensures c.eye.ensures
    ∙ ap (λ (w : Way). carry (steps_along w) (point_of c.args.v)) (sym c.in-Below.is)
