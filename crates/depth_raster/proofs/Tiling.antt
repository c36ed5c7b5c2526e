-- Tiles drawn one by one, and tiles that a piece does not reach.
use Rattle.std.proofs.Common.{◌≡◌, ℕ, ◌+◌, ◌*◌, ◌/◌, ◌<◌, ◌≤◌, List, length, set, get_or, get_or-set_same, get_or-set_other, refl, ap, sym, ◌∙◌, subst, arith, ⊎_elim}
use Rattle.std.specs.Int.{div_ceil}
use Rattle.std.proofs.lemmas.Bool.{cases_eq, cases_lt}
use Rattle.std.proofs.lemmas.Grind.{div_ceil_times}
use Rattle.std.proofs.lemmas.List.{get_or_default}
use Rattle.fx_math.specs.declared.lenses.Lens.{Lens}
use Rattle.depth_raster.specs.Around.{IsUnhit}
use Rattle.depth_raster.specs.Blocks.{IsBlockOf}
use Rattle.depth_raster.specs.Pieces.{IsPieceOf}
use Rattle.depth_raster.specs.Strips.{tile_block, AreTilesOf}
use Rattle.depth_raster.specs.Tiles.{marks_of, mark_in, face_over, MarksFollow}
use Rattle.depth_raster.specs.declared.blocks.Block.{Block}
use Rattle.depth_raster.specs.declared.faces.Face.{Face}
use Rattle.depth_raster.specs.declared.marks.Mark.{Mark}
use Rattle.depth_raster.specs.declared.pieces.Piece.{Piece}
use Rattle.depth_raster.specs.declared.tile.Tile.{Tile}
use Rattle.depth_raster.proofs.Skipped.{mark_missed}

-- ---- the blocks of tiles
pub tile_begins : (w n j : ℕ) → n ≡ div_ceil w 16 → j < n → 16 * j < w
tile_begins w n j count below = let bound : (w ≤ div_ceil w 16 * 16) × (div_ceil w 16 * 16 < w + 16) = div_ceil_times w 16 (omega arith) in omega (arith, bound.1, count)

pub tile_within : (lens : Lens) (band : Block) (tiles : List Tile) (j : ℕ) (d : Tile) → AreTilesOf band tiles → IsBlockOf lens band → j < length tiles → IsBlockOf lens (get_or tiles j d).block
tile_within lens band tiles j d are within below =
    subst (λ (b : Block). IsBlockOf lens b) (sym (are.blocks j d below))
    (record { columns = omega (arith, tile_begins band.width (length tiles) j are.count below, within.columns); rows = within.rows })

-- ---- some of the tiles are drawn
-- P holds of the parts before n, as tiles of a band and strips of a picture are; the others are as they were
pub record PartsSoFar {X : Type 0} (P : X → X → Type 0) (before after : List X) (n : ℕ) : Type 0 where
  pub done : (j : ℕ) (d : X) → j < n → j < length before → P (get_or before j d) (get_or after j d)
  pub ahead : (j : ℕ) (d : X) → n ≤ j → get_or after j d ≡ get_or before j d

pub tile_drawn : {X : Type 0} (P : X → X → Type 0) (before now : List X) (n : ℕ) (old new : X) → PartsSoFar P before now n → length now ≡ length before → n < length now → old ≡ get_or now n old → P old new → PartsSoFar P before (set now n new) (n + 1)
tile_drawn {X} P before now n old new so_far long below is drawn = record {
  done = λ j d l in_list. ⊎_elim
      (λ same.
      let was : get_or before j d ≡ old = ap (λ (k : ℕ). get_or before k d) same ∙ get_or_default before n d old (omega (arith, long)) ∙ sym (so_far.ahead n old (omega arith)) ∙ sym is in
      let here : get_or (set now n new) j d ≡ new = ap (λ (k : ℕ). get_or (set now n new) k d) same ∙ get_or-set_same now n new d below in
      subst (λ (t : X). P t (get_or (set now n new) j d)) (sym was) (subst (λ (t : X). P old t) (sym here) drawn))
      (λ apart. subst (λ (t : X). P (get_or before j d) t) (sym (get_or-set_other now n j new d apart)) (so_far.done j d (omega (arith, apart)) in_list))
      (cases_eq j n);
  ahead = λ j d l. get_or-set_other now n j new d (λ same. omega (arith, l, same)) ∙ so_far.ahead j d (omega (arith, l));
}

pub tiles_skipped : {X : Type 0} (P : X → X → Type 0) (before : List X) (n : ℕ) → ((j : ℕ) (d : X) → j < n → j < length before → P (get_or before j d) (get_or before j d)) → PartsSoFar P before before n
tiles_skipped P before n still = record { done = still; ahead = λ j d l. refl }

pub tiles_begun : {X : Type 0} (P : X → X → Type 0) (before : List X) → PartsSoFar P before before 0
tiles_begun P before = record { done = λ j d l in_list. absurd (omega (arith, l)); ahead = λ j d l. refl }

pub tiles_done : {X : Type 0} (P : X → X → Type 0) (before after : List X) (n : ℕ) → length before ≤ n → PartsSoFar P before after n → (j : ℕ) (d : X) → j < length before → P (get_or before j d) (get_or after j d)
tiles_done P before after n all so_far j d in_list = so_far.done j d (omega (arith, in_list, all)) in_list

pub tiles_rest : {X : Type 0} (P : X → X → Type 0) (before after : List X) (n : ℕ) → PartsSoFar P before after n → ((j : ℕ) (d : X) → n ≤ j → j < length before → P (get_or before j d) (get_or before j d)) → (j : ℕ) (d : X) → j < length before → P (get_or before j d) (get_or after j d)
tiles_rest {X} P before after n so_far still j d in_list = ⊎_elim
    (λ below. so_far.done j d below in_list)
    (λ beyond. subst (λ (t : X). P (get_or before j d) t) (sym (so_far.ahead j d beyond)) (still j d beyond in_list))
    (cases_lt j n)

-- ---- tiles that a face misses
still_marked : (f : ℕ → ℕ → Mark → Mark) (t : Tile) → ((q r : ℕ) → q < t.block.width → r < t.block.rows → f (t.block.left + q) (t.block.first + r) (mark_in t.block (marks_of t) q r) ≡ mark_in t.block (marks_of t) q r) → MarksFollow f t t
still_marked f t still = record { block = refl; colours = refl; marks = λ q r column row. sym (still q r column row) }

-- no pixel of the tile is met
abbrev pub IsUnmet : Lens → Face → Tile → Type 0
IsUnmet lens f t = (q r : ℕ) → q < t.block.width → r < t.block.rows → IsUnhit lens f.tri (t.block.left + q) (t.block.first + r)

pub unmet_marked : (lens : Lens) (f : Face) (t : Tile) → IsUnmet lens f t → MarksFollow (face_over lens f) t t
unmet_marked lens f t unmet = still_marked (face_over lens f) t (λ q r column row. mark_missed lens (t.block.left + q) (t.block.first + r) f (mark_in t.block (marks_of t) q r) (unmet q r column row))

pub unmet_left : (lens : Lens) (p : Piece) (b : Block) (j : ℕ) (t : Tile) → IsPieceOf lens p → t.block ≡ tile_block b j → IsBlockOf lens t.block → j < p.extent.left / 16 → IsUnmet lens p.face t
unmet_left lens p b j t ready is within l q r column row =
    let left : t.block.left ≡ 16 * j = ap (λ (c : Block). c.left) is in
    let width : t.block.width ≤ 16 = omega (arith, ap (λ (c : Block). c.width) is) in
    ready.extent.left_of (t.block.left + q) (t.block.first + r) (omega (arith, column, within.columns)) (omega (arith, row, within.rows)) (omega (arith, left, width, column, l))

pub unmet_right : (lens : Lens) (p : Piece) (b : Block) (j : ℕ) (t : Tile) → IsPieceOf lens p → t.block ≡ tile_block b j → IsBlockOf lens t.block → div_ceil p.extent.right 16 ≤ j → IsUnmet lens p.face t
unmet_right lens p b j t ready is within l q r column row =
    let left : t.block.left ≡ 16 * j = ap (λ (c : Block). c.left) is in
    let bound = div_ceil_times p.extent.right 16 (omega arith) in
    ready.extent.right_of (t.block.left + q) (t.block.first + r) (omega (arith, column, within.columns)) (omega (arith, row, within.rows)) (omega (arith, left, bound.0, l))

pub unmet_above : (lens : Lens) (p : Piece) (b : Block) (j : ℕ) (t : Tile) → IsPieceOf lens p → t.block ≡ tile_block b j → IsBlockOf lens t.block → b.first + b.rows ≤ p.extent.top → IsUnmet lens p.face t
unmet_above lens p b j t ready is within l q r column row =
    ready.extent.above (t.block.left + q) (t.block.first + r) (omega (arith, column, within.columns)) (omega (arith, row, within.rows)) (omega (arith, ap (λ (c : Block). c.first) is, ap (λ (c : Block). c.rows) is, row, l))

pub unmet_below : (lens : Lens) (p : Piece) (b : Block) (j : ℕ) (t : Tile) → IsPieceOf lens p → t.block ≡ tile_block b j → IsBlockOf lens t.block → p.extent.bottom ≤ b.first → IsUnmet lens p.face t
unmet_below lens p b j t ready is within l q r column row =
    ready.extent.below (t.block.left + q) (t.block.first + r) (omega (arith, column, within.columns)) (omega (arith, row, within.rows)) (omega (arith, ap (λ (c : Block). c.first) is, l))
