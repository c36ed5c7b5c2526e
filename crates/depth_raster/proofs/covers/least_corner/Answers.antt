use Rattle.std.proofs.Common.{◌+◌, ◌-◌, ◌*ℤ◌, pos, arith}
use Rattle.std.proofs.lemmas.Int.{ints}
use Rattle.depth_raster.proofs.BlockHits.{slope_above, slope_below}
use Rattle.depth_raster.proofs.covers.least_corner.Goals as goal

pub returns-then-slope-gt0-clause-least : goal.returns-then-slope-gt0-clause-least
returns-then-slope-gt0-clause-least c = λ x below.
    let a = c.args in
    slope_above (pos 2 *ℤ a.slope) a.first (a.first + x) (omega (arith, ints, c.if-slope-gt0.true)) (omega arith)

pub returns-else-slope-gt0-clause-least : goal.returns-else-slope-gt0-clause-least
returns-else-slope-gt0-clause-least c = λ x below.
    let a = c.args in
    slope_below (pos 2 *ℤ a.slope) (a.first + (a.count - 1)) (a.first + x) (omega (arith, ints, c.if-slope-gt0.false)) (omega (arith, below))
