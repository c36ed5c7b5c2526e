-- Strips whose rows show their tiles, and are handed over to an image.
use Rattle.std.proofs.Common.{◌≡◌, ◌≢◌, ℕ, ◌+◌, ◌-◌, ◌*◌, ◌/◌, ◌%◌, ◌<◌, List, [], length, get_or, Option, Some, ap, sym, ◌∙◌, subst, arith, ⊎_elim}
use Rattle.std.specs.Prelude.{min, option_and_then}
use Rattle.std.specs.List.{All, slice_get}
use Rattle.std.specs.Option.{option_map_or}
use Rattle.std.proofs.lemmas.Bool.{cases_eq}
use Rattle.std.proofs.lemmas.List.{get_or_default}
use Rattle.std.proofs.lemmas.Option.{slice_get-get_or}
use Rattle.fx_math.specs.declared.lenses.Lens.{Lens}
use Rattle.ppm_out.specs.Bands.{band_count, band_of}
use Rattle.ppm_out.specs.Pixmap.{Pixmap, Shows, pixel_in}
use Rattle.ppm_out.proofs.InBands.{shows_by_bands}
use Rattle.depth_raster.specs.Blocks.{colour_in}
use Rattle.depth_raster.specs.Canvas.{colour_at}
use Rattle.depth_raster.specs.Shown.{tile_colour, ShowsItself, IsSeenAs}
use Rattle.depth_raster.specs.Strips.{StripRelates, StripsRelate, AreStrips}
use Rattle.depth_raster.specs.declared.blocks.Block.{Block}
use Rattle.depth_raster.specs.declared.strip.Strip.{Strip}
use Rattle.depth_raster.specs.declared.tile.Tile.{Tile}
use Rattle.depth_raster.proofs.Flushed.{colour_is}
use Rattle.depth_raster.proofs.PixelTiles.{found, strips_kept, tiles_at}
use Rattle.depth_raster.proofs.Tiling.{PartsSoFar}

-- ---- strips that keep their tiles
-- a tile is as it was
abbrev pub IsSame : (before after : Tile) → Type 0
IsSame before after = after ≡ before

pub same_strip : (a b : Strip) → IsSeenAs a b → StripRelates IsSame a b
same_strip a b seen = record {
  band = seen.band;
  count = ap (λ (ts : List Tile). length ts) seen.tiles;
  tiles = λ j e in_band. ap (λ (ts : List Tile). get_or ts j e) seen.tiles;
}

-- what holds of the tiles up to there holds of them still
pub strip_then_same : (P : Tile → Tile → Type 0) (a b c : Strip) → StripRelates P a b → StripRelates IsSame b c → StripRelates P a c
strip_then_same P a b c drawn same = record {
  band = same.band ∙ drawn.band;
  count = same.count ∙ drawn.count;
  tiles = λ j e in_band.
      subst (λ (t : Tile). P (get_or a.tiles.items j e) t) (sym (same.tiles j e (omega (arith, in_band, drawn.count)))) (drawn.tiles j e in_band);
}

pub strips_then_same : (P : Tile → Tile → Type 0) (before mid after : List Strip) → length mid ≡ length before → StripsRelate P before mid → StripsRelate IsSame mid after → StripsRelate P before after
strips_then_same P before mid after long drawn same i d below =
    strip_then_same P (get_or before i d) (get_or mid i d) (get_or after i d) (drawn i d below) (same i d (omega (arith, below, long)))

-- each strip is
abbrev pub AreSeenAs : (before after : List Strip) → Type 0
AreSeenAs before after = (i : ℕ) (d : Strip) → i < length before → IsSeenAs (get_or before i d) (get_or after i d)

pub same_strips : (before after : List Strip) → AreSeenAs before after → StripsRelate IsSame before after
same_strips before after seen i d below = same_strip (get_or before i d) (get_or after i d) (seen i d below)

pub same_kept : (lens : Lens) (before after : List Strip) → AreStrips lens before → length after ≡ length before → StripsRelate IsSame before after → AreStrips lens after
same_kept lens before after are long same = strips_kept IsSame lens before after (λ s t is. ap (λ (u : Tile). u.block) is) are long same

pub same_colours : (lens : Lens) (before after : List Strip) → AreStrips lens before → length after ≡ length before → StripsRelate IsSame before after → (px py : ℕ) → px < lens.w → py < lens.h → colour_at after px py ≡ colour_at before px py
same_colours lens before after are long same px py column row =
    let at = tiles_at IsSame lens before after are long same px py column row in
    colour_is after px py at.new at.is
    ∙ ap (λ (t : Tile). colour_in t.block t.colours.items (px % 16) (py % 16)) at.related
    ∙ sym (colour_is before px py at.old at.stands.is)

-- ---- rows that are handed over
-- the first bands of an image are the rows that strips had
abbrev pub HasBands : (image : Pixmap) → (before : List Strip) → (count : ℕ) → Type 0
HasBands image before count = (k : ℕ) (d : Strip) → k < count → k < length before → band_of image k ≡ (get_or before k d).rows.items

-- one band more
pub band_handed : (old new : Pixmap) (before now : List Strip) (n : ℕ) (s : Strip) → HasBands old before n → PartsSoFar IsSeenAs before now n → s ≡ get_or now n s → n < length before
    → length before ≡ band_count old.height → band_of new n ≡ s.rows.items
    → ((k : ℕ) → k < band_count old.height → k ≢ n → band_of new k ≡ band_of old k) → HasBands new before (n + 1)
band_handed old new before now n s had so_far is there count here others k d below in_list = ⊎_elim
    (λ same.
    let was : get_or before n d ≡ s = get_or_default before n d s there ∙ sym (so_far.ahead n s (omega arith)) ∙ sym is in
    ap (λ (j : ℕ). band_of new j) same ∙ here ∙ ap (λ (u : Strip). u.rows.items) (sym was) ∙ ap (λ (j : ℕ). (get_or before j d).rows.items) (sym same))
    (λ apart. others k (omega (arith, in_list, count)) apart ∙ had k d (omega (arith, below, apart)) in_list)
    (cases_eq k n)

-- the colour of the tiles of a strip
strip_colour : (strips : List Strip) (k : ℕ) (d : Strip) (px row : ℕ) → k < length strips → row < 16 → tile_colour (get_or strips k d).tiles.items px row ≡ colour_at strips px (16 * k + row)
unfolding colour_at
strip_colour strips k d px row below few =
    let py = 16 * k + row in
    let here : py / 16 ≡ k = omega (arith, few) in
    let inside : py % 16 ≡ row = omega (arith, few) in
    let strip : slice_get strips (py / 16) ≡ Some (get_or strips k d) = ap (λ (n : ℕ). slice_get strips n) here ∙ slice_get-get_or strips k d below in
    sym
    (ap (λ (o : Option Strip). option_map_or (λ t. colour_in t.block t.colours.items (px % 16) (py % 16)) (option_and_then (λ u. slice_get u.tiles.items (px / 16)) o) []) strip
    ∙ ap (λ (n : ℕ). option_map_or (λ t. colour_in t.block t.colours.items (px % 16) n) (slice_get (get_or strips k d).tiles.items (px / 16)) []) inside)

-- an image whose bands are the rows of strips that show their tiles shows the picture
pub handed_shown : (lens : Lens) (before after : List Strip) (image : Pixmap) → AreStrips lens before → length after ≡ length before → AreSeenAs before after → All ShowsItself before
    → image.width ≡ lens.w → image.height ≡ lens.h → HasBands image before (length before) → Shows image (colour_at after)
handed_shown lens before after image are long seen shown wide high bands =
    shows_by_bands image (colour_at after)
    (λ k px row within across inside.
    let count : k < length before = omega (arith, within, are.count, high) in
    let d = (found before k count).item in
    let s = get_or before k d in
    let band = are.bands k d count in
    let width : image.width ≡ s.band.width = wide ∙ ap (λ (b : Block). b.width) (sym band) in
    let rows : s.band.rows ≡ min 16 (lens.h - 16 * k) = ap (λ (b : Block). b.rows) band in
    ap (λ (bytes : List ℕ). pixel_in bytes image.width px row) (bands k d count count)
    ∙ ap (λ (w : ℕ). pixel_in s.rows.items w px row) width
    ∙ shown k d count px row (omega (arith, across, width)) (omega (arith, inside, rows, high))
    ∙ ap (λ (ts : List Tile). tile_colour ts px row) (sym {A = List Tile} (seen k d count).tiles)
    ∙ strip_colour after k d px row (omega (arith, count, long)) (omega (arith, inside)))
