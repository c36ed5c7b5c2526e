use Rattle.std.proofs.Common.{◌+◌, refl, arith}
use Rattle.depth_raster.specs.Blocks.{colour_in, place_in}
use Rattle.depth_raster.specs.Tiles.{hit_within}
use Rattle.depth_raster.proofs.Following.{none_related, related_at, related_span, row_start, row_end, all_related}
use Rattle.depth_raster.proofs.covered.paint_whole.Goals as goal

pub loop-r-init : goal.loop-r-init
loop-r-init c =
    let a = c.args in
    let b = a.block.now in
    none_related b (colour_in b a.colours.now) (hit_within a.lens.now a.piece.now b) (place_in b 0 0) (row_start b)

pub loop-r-preserved : goal.loop-r-preserved
loop-r-preserved c =
    let a = c.args in
    let b = a.block.now in
    let r = c.loop-r.r in
    let painted = related_span b (colour_in b a.colours.now) (colour_in b c.loop-r.colours) (colour_in b c.paint_piece.new.colours) (hit_within a.lens.now a.piece.now b)
    r 0 b.width c.loop-r.invariant c.paint_piece.ensures (omega arith) (omega arith) in
    related_at b (colour_in b a.colours.now) (colour_in b c.paint_piece.new.colours) (hit_within a.lens.now a.piece.now b)
    (place_in b b.width r) (place_in b 0 (r + 1)) (row_end b b.width r refl) painted

pub returns : goal.returns
returns c =
    let a = c.args in
    let b = a.block.now in
    all_related b (colour_in b a.colours.now) (colour_in b c.loop-r.colours) (hit_within a.lens.now a.piece.now b) c.loop-r.r (place_in b 0 c.loop-r.r) (omega arith) refl c.loop-r.invariant
