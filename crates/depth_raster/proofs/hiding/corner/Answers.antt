use Rattle.std.proofs.Common.{◌+◌, ◌-◌, ◌*ℤ◌, pos, arith}
use Rattle.std.proofs.lemmas.Int.{ints}
use Rattle.depth_raster.proofs.BlockHits.{slope_above, slope_below}
use Rattle.depth_raster.proofs.hiding.corner.Goals as goal

pub returns-then-slope-gt0-clause-greatest : goal.returns-then-slope-gt0-clause-greatest
returns-then-slope-gt0-clause-greatest c = λ x below.
    let a = c.args in
    slope_above (pos 2 *ℤ a.slope) (a.first + x) (a.first + (a.count - 1)) (omega (arith, ints, c.if-slope-gt0.true)) (omega (arith, below))

pub returns-else-slope-gt0-clause-greatest : goal.returns-else-slope-gt0-clause-greatest
returns-else-slope-gt0-clause-greatest c = λ x below.
    let a = c.args in
    slope_below (pos 2 *ℤ a.slope) (a.first + x) a.first (omega (arith, ints, c.if-slope-gt0.false)) (omega arith)
