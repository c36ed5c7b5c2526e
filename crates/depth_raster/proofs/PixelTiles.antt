-- The tile of a pixel, and what a drawing of all tiles makes of it.
use Rattle.std.proofs.Common.{◌≡◌, ℕ, zero, suc, ◌+◌, ◌*◌, ◌/◌, ◌%◌, ◌<◌, ◌≤◌, List, [], ◌∷◌, length, get_or, Some, refl, ap, sym, ◌∙◌, subst, arith}
use Rattle.std.specs.Prelude.{option_and_then}
use Rattle.std.specs.List.{slice_get}
use Rattle.std.specs.Int.{div_ceil}
use Rattle.std.proofs.lemmas.Grind.{div_ceil_times}
use Rattle.std.proofs.lemmas.Option.{slice_get-get_or}
use Rattle.fx_math.specs.declared.lenses.Lens.{Lens}
use Rattle.depth_raster.specs.Blocks.{IsBlockOf}
use Rattle.depth_raster.specs.Canvas.{tile_at}
use Rattle.depth_raster.specs.Strips.{band_at, tile_block, AreTilesOf, IsStripOf, StripRelates, StripsRelate, AreStrips}
use Rattle.depth_raster.specs.Tiles.{IsAt}
use Rattle.depth_raster.specs.declared.blocks.Block.{Block}
use Rattle.depth_raster.specs.declared.strip.Strip.{Strip}
use Rattle.depth_raster.specs.declared.tile.Tile.{Tile}

-- ---- elements
pub record IsFound {X : Type 0} (xs : List X) (i : ℕ) : Type 0 where
  pub item : X
  pub is : slice_get xs i ≡ Some item
  pub at : get_or xs i item ≡ item

pub found : {X : Type 0} (xs : List X) (i : ℕ) → i < length xs → IsFound xs i
found [] i l = absurd (omega (arith, l))
found (x ∷ xs) zero l = record { item = x; is = refl; at = refl }
found (x ∷ xs) (suc i) l = let rest = found xs i (omega (arith, l)) in record { item = rest.item; is = rest.is; at = rest.at }

pub part_reached : (h n p : ℕ) → n ≡ div_ceil h 16 → p < h → p / 16 < n
part_reached h n p count below = let bound : (h ≤ div_ceil h 16 * 16) × (div_ceil h 16 * 16 < h + 16) = div_ceil_times h 16 (omega arith) in omega (arith, bound.0, count)

pub band_within : (lens : Lens) (i : ℕ) → 16 * i < lens.h → IsBlockOf lens (band_at lens i)
band_within lens i begins = record { columns = omega arith; rows = omega arith }

pub band_begins : (h n i : ℕ) → n ≡ div_ceil h 16 → i < n → 16 * i < h
band_begins h n i count below = let bound : (h ≤ div_ceil h 16 * 16) × (div_ceil h 16 * 16 < h + 16) = div_ceil_times h 16 (omega arith) in omega (arith, bound.1, count)

pub strips_within : (lens : Lens) (strips : List Strip) → AreStrips lens strips → (i : ℕ) (d : Strip) → i < length strips → IsStripOf lens (get_or strips i d)
strips_within lens strips are i d below =
    let starts = band_begins lens.h (length strips) i are.count below in
    record {
      band = subst (λ (b : Block). IsBlockOf lens b) (sym (are.bands i d below)) (band_within lens i starts);
      begins = omega (arith, starts, ap (λ (b : Block). b.first) (are.bands i d below));
      most = omega (arith, ap (λ (b : Block). b.rows) (are.bands i d below));
      tiles = subst (λ (b : Block). AreTilesOf b (get_or strips i d).tiles.items) (sym (are.bands i d below)) (are.tiles i d below);
    }

-- ---- the tile of a pixel
pub record IsTileAt (strips : List Strip) (px py : ℕ) (t : Tile) : Type 0 where
  pub is : tile_at strips px py ≡ Some t
  pub at : IsAt t (px % 16) (py % 16)
  pub left : t.block.left + px % 16 ≡ px
  pub first : t.block.first + py % 16 ≡ py

-- the tile of a pixel before and after
pub record AreTilesAt (P : Tile → Tile → Type 0) (before after : List Strip) (px py : ℕ) : Type 0 where
  pub old : Tile
  pub new : Tile
  pub stands : IsTileAt before px py old
  pub is : tile_at after px py ≡ Some new
  pub related : P old new

pub tiles_at : (P : Tile → Tile → Type 0) (lens : Lens) (before after : List Strip) → AreStrips lens before → length after ≡ length before → StripsRelate P before after → (px py : ℕ) → px < lens.w → py < lens.h → AreTilesAt P before after px py
tiles_at P lens before after are long each px py column row = record {
  old = tile.item;
  new = new;
  stands = record {
    is = ap (option_and_then (λ (s : Strip). slice_get s.tiles.items j)) strip.is ∙ tile.is;
    at = record { column = omega (arith, ap (λ (b : Block). b.width) block, column); row = omega (arith, ap (λ (b : Block). b.rows) block, row) };
    left = omega (arith, ap (λ (b : Block). b.left) block);
    first = omega (arith, ap (λ (b : Block). b.first) block);
  };
  is = ap (option_and_then (λ (s : Strip). slice_get s.tiles.items j)) (slice_get-get_or after i strip.item (omega (arith, reached, long))) ∙ slice_get-get_or after'.tiles.items j tile.item (omega (arith, in_band, here.count, ap (λ (s : Strip). length s.tiles.items) strip.at));
  related = subst (λ (t : Tile). P t new) (ap (λ (s : Strip). get_or s.tiles.items j tile.item) strip.at ∙ tile.at) (here.tiles j tile.item (omega (arith, in_band, ap (λ (s : Strip). length s.tiles.items) strip.at)));
}
  where
    i : ℕ
    i = py / 16

    j : ℕ
    j = px / 16

    reached : i < length before
    reached = part_reached lens.h (length before) py are.count row

    strip : IsFound before i
    strip = found before i reached

    tiles : AreTilesOf (band_at lens i) strip.item.tiles.items
    tiles = subst (λ (s : Strip). AreTilesOf (band_at lens i) s.tiles.items) strip.at (are.tiles i strip.item reached)

    in_band : j < length strip.item.tiles.items
    in_band = part_reached lens.w (length strip.item.tiles.items) px tiles.count column

    tile : IsFound strip.item.tiles.items j
    tile = found strip.item.tiles.items j in_band

    block : tile.item.block ≡ tile_block (band_at lens i) j
    block = ap (λ (t : Tile). t.block) (sym tile.at) ∙ tiles.blocks j tile.item in_band

    here : StripRelates P (get_or before i strip.item) (get_or after i strip.item)
    here = each i strip.item reached

    after' : Strip
    after' = get_or after i strip.item

    new : Tile
    new = get_or after'.tiles.items j tile.item

-- ---- strips that are drawn are strips still
pub strips_kept : (P : Tile → Tile → Type 0) (lens : Lens) (before after : List Strip) → ((s t : Tile) → P s t → t.block ≡ s.block) → AreStrips lens before → length after ≡ length before → StripsRelate P before after → AreStrips lens after
strips_kept P lens before after keeps are long each = record {
  count = long ∙ are.count;
  bands = λ i d below. let below' : i < length before = omega (arith, below, long) in (each i d below').band ∙ are.bands i d below';
  tiles = λ i d below.
      let below' : i < length before = omega (arith, below, long) in
      let were = are.tiles i d below' in
      let here = each i d below' in
      record {
        count = here.count ∙ were.count;
        blocks = λ j e in_band.
            let in_band' : j < length (get_or before i d).tiles.items = omega (arith, in_band, here.count) in
            keeps (get_or (get_or before i d).tiles.items j e) (get_or (get_or after i d).tiles.items j e) (here.tiles j e in_band') ∙ were.blocks j e in_band';
      };
}
