use Rattle.std.proofs.Common.{◌≡◌, ◌*◌, ◌<◌, length, ap, ◌∙◌, arith}
use Rattle.depth_raster.specs.Strips.{tile_block}
use Rattle.depth_raster.specs.declared.blocks.Block.{Block}
use Rattle.depth_raster.specs.declared.tile.Tile.{Tile}
use Rattle.depth_raster.proofs.Composing.{tile_added, last_part}
use Rattle.depth_raster.proofs.Tiling.{tile_begins}
use Rattle.depth_raster.proofs.shown.show_tiles.Goals as goal

pub show_tile-requires : goal.show_tile-requires
show_tile-requires c =
    let b = c.args.band.now in
    let tiles = c.args.tiles.now in
    let j = c.loop-j.j in
    let t = c.index-tiles-j.result in
    let below : j < length tiles = omega (arith, c.loop-j-test.true) in
    let block : t.block ≡ tile_block b j = ap (λ (u : Tile). u.block) c.index-tiles-j.is ∙ c.requires.tiles.blocks j t below in
    let starts : 16 * j < b.width = tile_begins b.width (length tiles) j c.requires.tiles.count below in
    record {
      columns = omega (arith, starts, ap (λ (e : Block). e.left) block, ap (λ (e : Block). e.width) block);
      rows = omega (arith, ap (λ (e : Block). e.rows * b.width) block, c.loop-j.auto.bytes, c.requires.bytes);
    }

pub loop-j-preserved : goal.loop-j-preserved
loop-j-preserved c =
    let b = c.args.band.now in
    let tiles = c.args.tiles.now in
    let j = c.loop-j.j in
    let t = c.index-tiles-j.result in
    let below : j < length tiles = omega (arith, c.loop-j-test.true) in
    let block : t.block ≡ tile_block b j = ap (λ (u : Tile). u.block) c.index-tiles-j.is ∙ c.requires.tiles.blocks j t below in
    tile_added b tiles j t c.loop-j.bytes c.show_tile.new.bytes block c.index-tiles-j.is below c.loop-j.invariant c.show_tile.ensures

pub returns : goal.returns
returns c = λ px r column row.
    let b = c.args.band.now in
    let all = last_part b.width (length c.args.tiles.now) c.loop-j.j c.requires.tiles.count (omega arith) in
    c.loop-j.invariant px r (omega (arith, column, all)) row
