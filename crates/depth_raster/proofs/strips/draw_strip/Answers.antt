use Rattle.std.proofs.Common.{◌≡◌, List, length, refl, ap, sym, ◌∙◌, subst}
use Rattle.std.proofs.lemmas.List.{with_items_is}
use Rattle.depth_raster.specs.Goes.{IsDrawnIn}
use Rattle.depth_raster.specs.Shares.{AreSlotsFor}
use Rattle.depth_raster.specs.Strips.{TilesRelate}
use Rattle.depth_raster.specs.declared.strip_slots.StripSlot.{StripSlot}
use Rattle.depth_raster.specs.declared.tile.Tile.{Tile}
use Rattle.depth_raster.proofs.strips.draw_strip.Goals as goal

pub draw_band-requires-clause-slots : goal.draw_band-requires-clause-slots
draw_band-requires-clause-slots c =
    let go = c.args.go.now in
    let band = c.args.strip.now.band in
    subst (λ (ss : List StripSlot). AreSlotsFor go.lens.now go.pieces.now band ss) (sym c.deref.ensures.value)
    (c.sort_strip.ensures.same go.lens.now go.pieces.now band c.requires.slots)

pub returns : goal.returns
returns c =
    let P = IsDrawnIn c.args.go.now in
    let s = c.args.strip.now in
    let after = c.draw_band.new.tiles in
    let long : length after ≡ s.tiles.len = c.draw_band.auto.tiles ∙ c.deref_mut.ensures.len in
    let written = with_items_is s.tiles after long in
    let drawn = subst (λ (ts : List Tile). TilesRelate P ts after) c.deref_mut.ensures.value c.draw_band.ensures in
    record {
      band = refl;
      count = ap (λ (ts : List Tile). length ts) written ∙ long ∙ s.tiles.ok.0;
      tiles = subst (λ (ts : List Tile). TilesRelate P s.tiles.items ts) (sym written) drawn;
    }
