-- A picture put together from the tiles of its strips.
use Rattle.std.proofs.Common.{◌≡◌, ℕ, ◌+◌, ◌*◌, ◌-◌, ◌/◌, ◌%◌, ◌<◌, ◌≤◌, List, [], length, get_or, Option, Some, ap, sym, ◌∙◌, arith, ⊎_elim}
use Rattle.std.specs.Prelude.{min}
use Rattle.std.specs.Option.{option_map_or}
use Rattle.std.specs.List.{slice_get, between}
use Rattle.std.specs.Int.{div_ceil}
use Rattle.std.proofs.lemmas.Bool.{cases_lt}
use Rattle.std.proofs.lemmas.Grind.{div_ceil_times}
use Rattle.std.proofs.lemmas.List.Edits.{length-between, get_or-between}
use Rattle.std.proofs.lemmas.Nat.{mul-le}
use Rattle.std.proofs.lemmas.Option.{slice_get-get_or}
use Rattle.std.proofs.Math.Nat.{add-mul}
use Rattle.ppm_out.specs.Pixmap.{pixel_in}
use Rattle.depth_raster.specs.Blocks.{colour_in, place_in, size_of}
use Rattle.depth_raster.specs.Shown.{SetsRow, SetsTile, tile_colour}
use Rattle.depth_raster.specs.Strips.{tile_block}
use Rattle.depth_raster.specs.declared.blocks.Block.{Block}
use Rattle.depth_raster.specs.declared.tile.Tile.{Tile}

-- ---- the rows of a tile
row_within : (w r rows : ℕ) → r < rows → r * w + w ≤ rows * w
row_within w r rows below = omega (arith, mul-le (r + 1) w rows w (omega (arith, below)) (omega arith), add-mul r 1 w)

pub row_long : (b : Block) (colours : List (List ℕ)) (from r : ℕ) → length colours ≡ size_of b → r < b.rows → from ≡ place_in b 0 r → length (between from (from + b.width) colours) ≡ b.width
row_long b colours from r whole below is = length-between colours from (from + b.width) (omega (arith, whole, is, row_within b.width r b.rows below)) ∙ omega arith

pub row_seen : (t : Tile) (colours : List (List ℕ)) (from r q : ℕ) → colours ≡ t.colours.items → from ≡ place_in t.block 0 r → q < t.block.width → get_or (between from (from + t.block.width) colours) q [] ≡ colour_in t.block t.colours.items q r
row_seen t colours from r q value is column =
    let there : from + q ≡ place_in t.block q r = omega (arith, is) in
    get_or-between colours from (from + t.block.width) q [] (omega (arith, column))
    ∙ ap (λ (cs : List (List ℕ)). get_or cs (from + q) []) value
    ∙ ap (λ (i : ℕ). get_or t.colours.items i []) there

-- a row more of a tile
pub row_added : (width : ℕ) (old mid new : List ℕ) (t : Tile) (r : ℕ) (colours : List (List ℕ)) → length colours ≡ t.block.width → t.block.left + t.block.width ≤ width
    → ((q : ℕ) → q < t.block.width → get_or colours q [] ≡ colour_in t.block t.colours.items q r)
    → SetsTile width old mid t r → SetsRow width mid new t.block.left r colours → SetsTile width old new t (r + 1)
row_added width old mid new t r colours long columns each above row = record {
  coloured = λ q s column below. ⊎_elim
      (λ before. row.others (t.block.left + q) s (omega (arith, column, columns)) (λ same low high. absurd (omega (arith, same, before))) ∙ above.coloured q s column before)
      (λ from.
      let last : s ≡ r = omega (arith, below, from) in
      ap (λ (n : ℕ). pixel_in new width (t.block.left + q) n) last
      ∙ row.coloured q (omega (arith, column, long))
      ∙ each q column
      ∙ sym (ap (λ (n : ℕ). colour_in t.block t.colours.items q n) last))
      (cases_lt s r);
  others = λ px s column apart.
      row.others px s column (λ same low high. apart low (omega (arith, high, long)) (omega (arith, same)))
      ∙ above.others px s column (λ low high below. apart low high (omega (arith, below)));
}

-- ---- the tiles of a band
pub last_part : (size count n : ℕ) → count ≡ div_ceil size 16 → count ≤ n → min (16 * n) size ≡ size
last_part size count n is all =
    let bound : (size ≤ div_ceil size 16 * 16) × (div_ceil size 16 * 16 < size + 16) = div_ceil_times size 16 (omega arith) in
    omega (arith, bound.0, is, all)

-- the colour of a tile among those of its band
tile_seen : (tiles : List Tile) (j : ℕ) (t : Tile) → t ≡ get_or tiles j t → j < length tiles → (px r : ℕ) → px / 16 ≡ j → colour_in t.block t.colours.items (px % 16) r ≡ tile_colour tiles px r
tile_seen tiles j t is below px r at =
    let here : slice_get tiles (px / 16) ≡ Some t = ap (λ (n : ℕ). slice_get tiles n) at ∙ slice_get-get_or tiles j t below ∙ ap (λ (u : Tile). Some u) (sym is) in
    sym (ap (λ (o : Option Tile). option_map_or (λ u. colour_in u.block u.colours.items (px % 16) r) o []) here)

-- the columns of the first tiles of a band are shown
abbrev pub ShowsFront : (band : Block) → List Tile → (j : ℕ) → (bytes : List ℕ) → Type 0
ShowsFront band tiles j bytes = (px r : ℕ) → px < min (16 * j) band.width → r < band.rows → pixel_in bytes band.width px r ≡ tile_colour tiles px r

-- a tile more
pub tile_added : (band : Block) (tiles : List Tile) (j : ℕ) (t : Tile) (mid new : List ℕ) → t.block ≡ tile_block band j → t ≡ get_or tiles j t → j < length tiles
    → ShowsFront band tiles j mid → SetsTile band.width mid new t t.block.rows → ShowsFront band tiles (j + 1) new
tile_added band tiles j t mid new block is below front sets = λ px r column row.
    let left : t.block.left ≡ 16 * j = ap (λ (b : Block). b.left) block in
    let width : t.block.width ≡ min 16 (band.width - 16 * j) = ap (λ (b : Block). b.width) block in
    let rows : t.block.rows ≡ band.rows = ap (λ (b : Block). b.rows) block in
    ⊎_elim
    (λ before. sets.others px r (omega (arith, column)) (λ low high within. absurd (omega (arith, low, left, before))) ∙ front px r (omega (arith, before, column)) row)
    (λ from.
    let here : px / 16 ≡ j = omega (arith, from, column) in
    let at : px ≡ t.block.left + px % 16 = omega (arith, here, left) in
    ap (λ (n : ℕ). pixel_in new band.width n r) at
    ∙ sets.coloured (px % 16) r (omega (arith, width, column, here)) (omega (arith, row, rows))
    ∙ tile_seen tiles j t is below px r here)
    (cases_lt px (16 * j))
