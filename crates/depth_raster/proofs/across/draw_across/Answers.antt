use Rattle.std.proofs.Common.{◌+◌, ◌*◌, ◌<◌, ◌≤◌, get_or, sym, subst, arith}
use Rattle.std.specs.Int.{div_ceil}
use Rattle.std.proofs.lemmas.Grind.{div_ceil_times}
use Rattle.depth_raster.specs.Blocks.{IsBlockOf}
use Rattle.depth_raster.specs.declared.tile.Tile.{Tile}
use Rattle.depth_raster.specs.Tiles.{face_over, MarksFollow}
use Rattle.depth_raster.proofs.Tiling.{tile_within, tile_drawn, tiles_skipped, tiles_rest, unmet_marked, unmet_left, unmet_right}
use Rattle.depth_raster.proofs.across.draw_across.Goals as goal

pub loop-t-init : goal.loop-t-init
loop-t-init c =
    let a = c.args in
    let p = a.piece.now in
    tiles_skipped (MarksFollow (face_over a.lens.now p.face)) a.tiles.now a.slot.now.start
    (λ j d l below. let t = get_or a.tiles.now j d in
    unmet_marked a.lens.now p.face t (unmet_left a.lens.now p a.band.now j t c.requires.ready (c.requires.tiles.blocks j d below) (tile_within a.lens.now a.band.now a.tiles.now j d c.requires.tiles c.requires.band below) (omega (arith, l, c.requires.slot.start))))

pub loop-t-preserved : goal.loop-t-preserved
loop-t-preserved c =
    let a = c.args in
    let f = face_over a.lens.now a.piece.now.face in
    tile_drawn (MarksFollow f) a.tiles.now c.loop-t.tiles c.loop-t.t c.index-tiles-t.result c.draw_before.new.tile c.loop-t.invariant c.loop-t.auto.tiles
    (omega (arith, c.loop-t-test.true, c.min-end.ensures, c.loop-t.auto.tiles)) c.index-tiles-t.is
    (subst (λ (t : Tile). MarksFollow f t c.draw_before.new.tile) (sym c.index-tiles-t.is) c.draw_before.ensures)

pub draw_before-requires-clause-block : goal.draw_before-requires-clause-block
draw_before-requires-clause-block c =
    let a = c.args in
    let d = c.index-tiles-t.result in
    subst (λ (t : Tile). IsBlockOf a.lens.now t.block) (sym (c.loop-t.invariant.ahead c.loop-t.t d (omega arith)))
    (tile_within a.lens.now a.band.now a.tiles.now c.loop-t.t d c.requires.tiles c.requires.band (omega (arith, c.loop-t-test.true, c.min-end.ensures)))

pub returns : goal.returns
returns c =
    let a = c.args in
    let p = a.piece.now in
    let w = a.band.now.width in
    let few : (w ≤ div_ceil w 16 * 16) × (div_ceil w 16 * 16 < w + 16) = div_ceil_times w 16 (omega arith) in
    tiles_rest (MarksFollow (face_over a.lens.now p.face)) a.tiles.now c.loop-t.tiles c.loop-t.t c.loop-t.invariant
    (λ j d l below. let t = get_or a.tiles.now j d in
    unmet_marked a.lens.now p.face t (unmet_right a.lens.now p a.band.now j t c.requires.ready (c.requires.tiles.blocks j d below) (tile_within a.lens.now a.band.now a.tiles.now j d c.requires.tiles c.requires.band below)
    (omega (arith, l, below, c.loop-t-test.false, c.min-end.ensures, c.requires.slot.end, c.requires.tiles.count, few.1, c.requires.band.columns, a.lens.now.in_range.most_width))))
