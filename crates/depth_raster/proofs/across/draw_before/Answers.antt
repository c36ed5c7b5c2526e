use Rattle.std.proofs.Common.{arith}
use Rattle.depth_raster.proofs.Owing.{marks_long}
use Rattle.depth_raster.proofs.Foremost.{least_behind}
use Rattle.depth_raster.proofs.Later.{least_from}
use Rattle.depth_raster.proofs.Readied.{behind_marked}
use Rattle.depth_raster.proofs.across.draw_before.Goals as goal

pub draw_at_top-requires-clause-depth : goal.draw_at_top-requires-clause-depth
draw_at_top-requires-clause-depth c =
    let a = c.args in
    least_from a.lens.now a.piece.now.face a.tile.now.block a.least a.tile.now.top c.requires.least c.requires.block (omega arith)

pub returns-else-least-tile-2 : goal.returns-else-least-tile-2
returns-else-least-tile-2 c =
    let a = c.args in
    let t = a.tile.now in
    behind_marked a.lens.now a.piece.now.face t t.topped (marks_long t)
    (least_behind a.lens.now a.piece.now.face t.block a.least t.top c.requires.least c.requires.block (omega (arith, c.if-least-tile.false, c.if-least-tile-2.false)))
