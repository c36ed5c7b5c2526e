-- The colours of tiles, put into the bytes of their rows, which are `width` pixels wide.
use Rattle.std.specs.Prelude.{◌≡◌, ℕ, ◌+◌, ◌<◌, ◌≤◌, ◌/◌, ◌%◌, List, [], length, slice_get, slice_index_or}
use Rattle.std.specs.Option.{option_map_or}
use Rattle.ppm_out.specs.Pixmap.{pixel_in}
use Rattle.depth_raster.specs.Blocks.{colour_in}
use Rattle.depth_raster.specs.declared.blocks.Block.{Block}
use Rattle.depth_raster.specs.declared.strip.Strip.{Strip}
use Rattle.depth_raster.specs.declared.tile.Tile.{Tile}

-- the pixels of a row from a column on get the colours, and nothing else is changed
pub record SetsRow (width : ℕ) (old new : List ℕ) (left row : ℕ) (colours : List (List ℕ)) : Type 0 where
  pub coloured : (q : ℕ) → q < length colours → pixel_in new width (left + q) row ≡ slice_index_or colours q []
  pub others : (px r : ℕ) → px < width → (r ≡ row → left ≤ px → px < left + length colours → ⊥)
      → pixel_in new width px r ≡ pixel_in old width px r

-- so many rows of a tile, from the first one on, get its colours, and nothing else is changed
pub record SetsTile (width : ℕ) (old new : List ℕ) (t : Tile) (rows : ℕ) : Type 0 where
  pub coloured : (q r : ℕ) → q < t.block.width → r < rows
      → pixel_in new width (t.block.left + q) r ≡ colour_in t.block t.colours.items q r
  pub others : (px r : ℕ) → px < width → (t.block.left ≤ px → px < t.block.left + t.block.width → r < rows → ⊥)
      → pixel_in new width px r ≡ pixel_in old width px r

-- the colour of the tiles of a band in a column and a row of it
abbrev pub tile_colour : List Tile → (px r : ℕ) → List ℕ
tile_colour tiles px r = option_map_or (λ t. colour_in t.block t.colours.items (px % 16) r) (slice_get tiles (px / 16)) []

-- each pixel of the band has the colour of its tile
abbrev pub ShowsTiles : (band : Block) → List Tile → (bytes : List ℕ) → Type 0
ShowsTiles band tiles bytes =
    (px r : ℕ) → px < band.width → r < band.rows → pixel_in bytes band.width px r ≡ tile_colour tiles px r

-- the rows of a strip have the colours of its tiles
abbrev pub ShowsItself : Strip → Type 0
ShowsItself s = ShowsTiles s.band s.tiles.items s.rows.items

-- a strip keeps its band and its tiles
pub record IsSeenAs (before after : Strip) : Type 0 where
  pub band : after.band ≡ before.band
  pub tiles : after.tiles.items ≡ before.tiles.items
