-- A picture in strips of rows, and a strip in tiles.
use Rattle.std.specs.Prelude.{◌≡◌, ℕ, ◌-◌, ◌*◌, ◌<◌, ◌≤◌, List, length, slice_index_or, min}
use Rattle.std.specs.Int.{div_ceil}
use Rattle.std.specs.List.{All}
use Rattle.std.specs.Vec.{vec_capacity}
use Rattle.fx_math.specs.declared.lenses.Lens.{Lens}
use Rattle.depth_raster.specs.Blocks.{IsBlockOf}
use Rattle.depth_raster.specs.declared.blocks.Block.{Block}
use Rattle.depth_raster.specs.declared.strip.Strip.{Strip}
use Rattle.depth_raster.specs.declared.tile.Tile.{Tile}

-- the rows of a strip of a number: sixteen, the last one of a picture perhaps fewer
abbrev pub band_at : Lens → ℕ → Block
band_at lens i = record { left = 0; first = 16 * i; width = lens.w; rows = min 16 (lens.h - 16 * i) }

-- the block of the tile of a number in such a band: sixteen columns, the last one perhaps fewer
abbrev pub tile_block : Block → ℕ → Block
tile_block band j = record { left = 16 * j; first = band.first; width = min 16 (band.width - 16 * j); rows = band.rows }

-- the tiles of a band, from the left
pub record AreTilesOf (band : Block) (tiles : List Tile) : Type 0 where
  pub count : length tiles ≡ div_ceil band.width 16
  pub blocks : (j : ℕ) (d : Tile) → j < length tiles → (slice_index_or tiles j d).block ≡ tile_block band j

-- the strip's tiles are those of its band
abbrev pub IsTiled : Strip → Type 0
IsTiled s = AreTilesOf s.band s.tiles.items

-- P holds of each tile before and after
abbrev pub TilesRelate : (Tile → Tile → Type 0) → (before after : List Tile) → Type 0
TilesRelate P before after = (j : ℕ) (d : Tile) → j < length before → P (slice_index_or before j d) (slice_index_or after j d)

-- the strip is one of the lens's picture
pub record IsStripOf (lens : Lens) (s : Strip) : Type 0 where
  pub band : IsBlockOf lens s.band
  pub begins : s.band.first < lens.h
  pub most : s.band.rows ≤ 16
  pub tiles : AreTilesOf s.band s.tiles.items

-- the strip's tiles are those of its band, or are still to be made, and there is room for them
pub record IsToBe (s : Strip) : Type 0 where
  pub rows : s.band.rows ≤ 16
  pub made : 0 < length s.tiles.items → IsTiled s
  pub room : length s.tiles.items ≡ 0 → div_ceil s.band.width 16 ≤ vec_capacity s.tiles

-- the strip has its tiles, and its band as before
pub record IsMade (before after : Strip) : Type 0 where
  pub band : after.band ≡ before.band
  pub tiles : IsTiled after

-- P holds of each tile of a strip before and after
pub record StripRelates (P : Tile → Tile → Type 0) (before after : Strip) : Type 0 where
  pub band : after.band ≡ before.band
  pub count : length after.tiles.items ≡ length before.tiles.items
  pub tiles : TilesRelate P before.tiles.items after.tiles.items

-- P holds of each tile of all strips before and after
abbrev pub StripsRelate : (Tile → Tile → Type 0) → (before after : List Strip) → Type 0
StripsRelate P before after =
    (i : ℕ) (d : Strip) → i < length before → StripRelates P (slice_index_or before i d) (slice_index_or after i d)

-- the strips of a lens's picture, from the top
pub record AreStrips (lens : Lens) (strips : List Strip) : Type 0 where
  pub count : length strips ≡ div_ceil lens.h 16
  pub bands : (i : ℕ) (d : Strip) → i < length strips → (slice_index_or strips i d).band ≡ band_at lens i
  pub tiles : (i : ℕ) (d : Strip) → i < length strips → AreTilesOf (band_at lens i) (slice_index_or strips i d).tiles.items

-- the same, where tiles may be still to be made
pub record AreToBe (lens : Lens) (strips : List Strip) : Type 0 where
  pub count : length strips ≡ div_ceil lens.h 16
  pub bands : (i : ℕ) (d : Strip) → i < length strips → (slice_index_or strips i d).band ≡ band_at lens i
  pub each : All IsToBe strips

-- each strip has its tiles
abbrev pub AreMade : (before after : List Strip) → Type 0
AreMade before after = (i : ℕ) (d : Strip) → i < length before → IsMade (slice_index_or before i d) (slice_index_or after i d)
