use Rattle.std.proofs.Common.{◌+◌, arith}
use Rattle.depth_raster.specs.Blocks.{colour_in}
use Rattle.depth_raster.specs.Marks.{behind_as}
use Rattle.depth_raster.specs.Tiles.{mark_in, glass_within, face_glazes}
use Rattle.depth_raster.proofs.Skipped.{glazed_missed, rows_skipped, rows_rest}
use Rattle.depth_raster.proofs.glass_tiles.glaze_colours.Goals as goal

pub loop-r-init : goal.loop-r-init
loop-r-init c =
    let a = c.args in
    let b = a.block.now in
    let f = a.piece.now.face in
    rows_skipped b (colour_in b a.colours.now) (glass_within b a.marks.now (face_glazes a.lens.now f)) c.rows_from-r.result
    (λ q r column row above. glazed_missed a.lens.now (b.left + q) (b.first + r) f (behind_as (mark_in b a.marks.now q r)) (colour_in b a.colours.now q r)
    (c.requires.ready.extent.above (b.left + q) (b.first + r) (omega (arith, column, c.requires.block.columns)) (omega (arith, row, c.requires.block.rows)) (omega (arith, above, c.rows_from-r.ensures))))

pub returns : goal.returns
returns c =
    let a = c.args in
    let b = a.block.now in
    let f = a.piece.now.face in
    rows_rest b (colour_in b a.colours.now) (colour_in b c.loop-r.colours) (glass_within b a.marks.now (face_glazes a.lens.now f)) c.loop-r.r c.loop-r.invariant
    (λ q r column below row. glazed_missed a.lens.now (b.left + q) (b.first + r) f (behind_as (mark_in b a.marks.now q r)) (colour_in b a.colours.now q r)
    (c.requires.ready.extent.below (b.left + q) (b.first + r) (omega (arith, column, c.requires.block.columns)) (omega (arith, row, c.requires.block.rows)) (omega (arith, below, row, c.rows_to-r-end.ensures))))
