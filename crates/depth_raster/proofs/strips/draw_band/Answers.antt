use Rattle.depth_raster.proofs.Drawn.{begun_tiles_kept, tiles_drawn_from}
use Rattle.depth_raster.proofs.strips.draw_band.Goals as goal

pub draw_tiles-requires-clause-tiles : goal.draw_tiles-requires-clause-tiles
draw_tiles-requires-clause-tiles c =
    let a = c.args in
    begun_tiles_kept a.is_first a.band.now a.tiles.now c.begin_tiles.new.tiles c.requires.tiles c.begin_tiles.auto.tiles c.begin_tiles.ensures

pub returns : goal.returns
returns c =
    let a = c.args in
    tiles_drawn_from a.lens.now a.back a.pieces.now a.is_first a.tiles.now c.begin_tiles.new.tiles c.draw_tiles.new.tiles c.begin_tiles.auto.tiles c.begin_tiles.ensures c.draw_tiles.ensures
