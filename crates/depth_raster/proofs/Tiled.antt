-- Strips whose tiles are made.
use Rattle.std.proofs.Common.{◌≡◌, ◌<◌, List, length, get_or, refl, ap, sym, ◌∙◌, subst, arith}
use Rattle.std.specs.List.{All}
use Rattle.fx_math.specs.declared.lenses.Lens.{Lens}
use Rattle.depth_raster.specs.Strips.{AreTilesOf, AreStrips, IsToBe, AreToBe, AreMade}
use Rattle.depth_raster.specs.declared.blocks.Block.{Block}
use Rattle.depth_raster.specs.declared.strip.Strip.{Strip}

pub made_strips : (lens : Lens) (before after : List Strip) → AreToBe lens before → length after ≡ length before → AreMade before after → AreStrips lens after
made_strips lens before after h same made = record {
  count = same ∙ h.count;
  bands = λ i d below. (made i d (omega (arith, below, same))).band ∙ h.bands i d (omega (arith, below, same));
  tiles = λ i d below.
      let there : i < length before = omega (arith, below, same) in
      subst (λ (b : Block). AreTilesOf b (get_or after i d).tiles.items) ((made i d there).band ∙ h.bands i d there) (made i d there).tiles;
}

-- strips that have their tiles already
pub all_made : (strips : List Strip) → All IsToBe strips → All (λ s. 0 < length s.tiles.items) strips → AreMade strips strips
all_made strips h some = λ i d below. record { band = refl; tiles = (h i d below).made (some i d below) }

pub still_made : (lens : Lens) (strips : List Strip) → AreStrips lens strips → AreToBe lens strips
still_made lens strips are = record {
  count = are.count;
  bands = are.bands;
  each = λ i d below.
      let s : Strip = get_or strips i d in
      let tiles : AreTilesOf s.band s.tiles.items = subst (λ (b : Block). AreTilesOf b s.tiles.items) (sym (are.bands i d below)) (are.tiles i d below) in
      record {
        rows = omega (arith, ap (λ (b : Block). b.rows) (are.bands i d below));
        made = λ some. tiles;
        room = λ none. omega (arith, none, tiles.count);
      };
}
