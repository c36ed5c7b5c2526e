use Rattle.std.proofs.Common.{sym, subst, arith}
use Rattle.depth_raster.specs.Blocks.{IsBlockOf}
use Rattle.depth_raster.specs.Tiles.{IsPainted}
use Rattle.depth_raster.specs.declared.tile.Tile.{Tile}
use Rattle.depth_raster.proofs.Tiling.{tile_within, tile_drawn, tiles_begun, tiles_done}
use Rattle.depth_raster.proofs.strips.paint_tiles.Goals as goal

pub loop-t-init : goal.loop-t-init
loop-t-init c = tiles_begun (IsPainted c.args.lens.now c.args.back c.args.pieces.now) c.args.tiles.now

pub loop-t-preserved : goal.loop-t-preserved
loop-t-preserved c =
    let a = c.args in
    let P = IsPainted a.lens.now a.back a.pieces.now in
    tile_drawn P a.tiles.now c.loop-t.tiles c.loop-t.t c.index-tiles-t.result c.paint.new.tile c.loop-t.invariant c.loop-t.auto.tiles
    (omega (arith, c.loop-t-test.true, c.loop-t.auto.tiles)) c.index-tiles-t.is
    (subst (λ (t : Tile). P t c.paint.new.tile) (sym c.index-tiles-t.is) c.paint.ensures)

pub paint-requires : goal.paint-requires
paint-requires c =
    let a = c.args in
    let d = c.index-tiles-t.result in
    record {
      block = subst (λ (t : Tile). IsBlockOf a.lens.now t.block) (sym (c.loop-t.invariant.ahead c.loop-t.t d (omega arith)))
          (tile_within a.lens.now a.band.now a.tiles.now c.loop-t.t d c.requires.tiles c.requires.band (omega arith));
      pieces = c.requires.pieces;
    }

pub returns : goal.returns
returns c = tiles_done (IsPainted c.args.lens.now c.args.back c.args.pieces.now) c.args.tiles.now c.loop-t.tiles c.loop-t.t (omega arith) c.loop-t.invariant
