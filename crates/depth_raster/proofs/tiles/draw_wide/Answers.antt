use Rattle.std.proofs.Common.{◌+◌, ◌-◌}
use Rattle.depth_raster.proofs.LineSigns.{ends_inside, values_inner}
use Rattle.depth_raster.proofs.tiles.draw_wide.Goals as goal

pub draw_wide_inside-requires-clause-inner : goal.draw_wide_inside-requires-clause-inner
draw_wide_inside-requires-clause-inner c =
    let a = c.args in
    let f = a.face.now in
    let b = a.block.now in
    let run = a.run.now in
    let px = b.left + run.start in
    let end = b.left + (run.end - 1) in
    let py = b.first + run.r in
    ends_inside f px end py
    (values_inner f px py c.values_at-values.result c.values_at-values.ensures (c.are_inner.ensures.0 c.if-are_inner.true))
    (values_inner f end py c.values_at-last.result c.values_at-last.ensures (c.are_inner-then-are_inner.ensures.0 c.if-are_inner-2.true))
