use Rattle.std.proofs.Common.{get_or, arith}
use Rattle.depth_raster.specs.StripSlots.{strip_slots_over}
use Rattle.depth_raster.proofs.Drawn.{tile_drawn_over}
use Rattle.depth_raster.proofs.Shared.{tile_over}
use Rattle.depth_raster.proofs.Slotted.{marked_tiles_kept}
use Rattle.depth_raster.proofs.Tiling.{tile_within}
use Rattle.depth_raster.proofs.strips.draw_tiles.Goals as goal

pub paint_tiles-requires-clause-tiles : goal.paint_tiles-requires-clause-tiles
paint_tiles-requires-clause-tiles c =
    let a = c.args in
    marked_tiles_kept (strip_slots_over a.lens.now a.pieces.now a.slots.now) a.band.now a.tiles.now c.draw_slots.new.tiles c.requires.tiles c.draw_slots.auto.tiles c.draw_slots.ensures

pub returns : goal.returns
returns c = λ j d below.
    let a = c.args in
    let over = tile_over a.lens.now a.pieces.now a.band.now a.slots.now j (get_or a.tiles.now j d) c.requires.slots (c.requires.tiles.blocks j d below) (tile_within a.lens.now a.band.now a.tiles.now j d c.requires.tiles c.requires.band below) in
    tile_drawn_over a.lens.now a.back a.pieces.now a.slots.now (get_or a.tiles.now j d) (get_or c.draw_slots.new.tiles j d) (get_or c.paint_tiles.new.tiles j d)
    over c.requires.ranks (c.draw_slots.ensures j d below) (c.paint_tiles.ensures j d (omega (arith, below, c.draw_slots.auto.tiles)))
