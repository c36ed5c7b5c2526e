use Rattle.std.proofs.Common.{◌≡◌, ℕ, ◌<◌, ◌≤◌, length, get_or}
use Rattle.std.specs.Int.{div_ceil}
use Rattle.std.specs.Vec.{vec_capacity}
use Rattle.depth_raster.specs.Strips.{tile_block}
use Rattle.depth_raster.specs.declared.tile.Tile.{Tile}
use Rattle.depth_raster.proofs.making.fill_band.Given as goal

abbrev pub invariant-loop-j : goal.invariant-loop-j
invariant-loop-j l = record {
  count : length l.tiles.items ≡ l.j;
  room : div_ceil l.band.width 16 ≤ vec_capacity l.tiles;
  blocks : (k : ℕ) (d : Tile) → k < l.j → (get_or l.tiles.items k d).block ≡ tile_block l.band k;
}
