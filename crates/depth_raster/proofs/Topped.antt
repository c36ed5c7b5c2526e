-- Marks that are drawn over lie no deeper than before.
use Rattle.std.proofs.Common.{◌≡◌, ℕ, ◌+◌, ◌*◌, ◌/◌, ◌%◌, ◌<◌, ◌≤◌, Bool, true, false, cond, List, length, get_or, Option, Some, None, refl, ap, ◌∙◌, subst, arith, ⊎_elim}
use Rattle.std.specs.List.{All}
use Rattle.std.proofs.Math.Nat.{mod-lt, mul-zero}
use Rattle.std.proofs.lemmas.Bool.{cases_lt}
use Rattle.std.proofs.lemmas.Bool.Decides.{nat_tests}
use Rattle.std.proofs.lemmas.List.{get_or_default}
use Rattle.std.proofs.lemmas.Nat.{div-add-mod'}
use Rattle.fx_math.specs.declared.lenses.Lens.{Lens}
use Rattle.depth_raster.specs.Blocks.{place_in, size_of}
use Rattle.depth_raster.specs.Following.{Follows}
use Rattle.depth_raster.specs.Marks.{goes_before, lesser, mark_by, mark_with, mark_over, no_mark}
use Rattle.depth_raster.specs.Tiles.{mark_in, within, face_over}
use Rattle.depth_raster.specs.declared.blocks.Block.{Block}
use Rattle.depth_raster.specs.declared.faces.Face.{Face}
use Rattle.depth_raster.specs.declared.marks.Mark.{Mark}
use Rattle.depth_raster.proofs.Following.{place_within}
use Rattle.edge_values.proofs.Divided.{quotient_before}

no_deeper : (m n : Mark) → goes_before n m ≡ true → n.depth ≤ m.depth
no_deeper m n h = grind (arith, nat_tests)

lesser_depth : (m n : Mark) → (lesser m n).depth ≤ m.depth
lesser_depth m n = by (goes_before n m) refl
  where
    by : (t : Bool) → goes_before n m ≡ t → (cond t n m).depth ≤ m.depth
    by true e = no_deeper m n e
    by false e = omega arith

with_depth : (m : Mark) (o : Option Mark) → (mark_with m o).depth ≤ m.depth
with_depth m None = omega arith
with_depth m (Some n) = lesser_depth m n

over_depth : (lens : Lens) (px py : ℕ) (f : Face) (m : Mark) → (mark_over lens px py f m).depth ≤ m.depth
unfolding mark_over
over_depth lens px py f m = with_depth m (mark_by lens px py f)

-- what holds at the pixels of a block holds of all its marks
pub all_marks : (P : Mark → Type 0) (b : Block) (marks : List Mark) → length marks ≡ size_of b → ((q r : ℕ) → q < b.width → r < b.rows → P (mark_in b marks q r)) → All P marks
all_marks P b marks whole each i d below = ⊎_elim
    (λ some.
    let q = i % b.width in
    let r = i / b.width in
    let at : r * b.width + q ≡ i = div-add-mod' i b.width in
    let row : r < b.rows = quotient_before b.rows i b.width some (omega (arith, below, whole)) in
    let here : P (get_or marks i no_mark) = subst (λ (j : ℕ). P (get_or marks j no_mark)) at (each q r (mod-lt i some) row) in
    subst P (get_or_default marks i no_mark d below) here)
    (λ none. absurd (let width : b.width ≡ 0 = omega (arith, none) in let size : b.rows * b.width ≡ 0 = ap (λ (n : ℕ). b.rows * n) width ∙ mul-zero b.rows in omega (arith, below, whole, size)))
    (cases_lt 0 b.width)

pub topped_after : (lens : Lens) (f : Face) (b : Block) (before after : List Mark) (top : ℕ) → length before ≡ size_of b → length after ≡ size_of b → All (λ (m : Mark). m.depth ≤ top) before
    → Follows b.width b.rows (mark_in b before) (mark_in b after) (within b (face_over lens f)) → All (λ (m : Mark). m.depth ≤ top) after
topped_after lens f b before after top whole whole' topped drawn = all_marks (λ (m : Mark). m.depth ≤ top) b after whole'
    (λ q r column row.
    let was : (mark_in b before q r).depth ≤ top = topped (place_in b q r) no_mark (omega (arith, whole, place_within b q r column row)) in
    let now = over_depth lens (b.left + q) (b.first + r) f (mark_in b before q r) in
    omega (arith, was, now, ap (λ (m : Mark). m.depth) (drawn q r column row)))
