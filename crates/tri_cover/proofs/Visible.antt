-- Extents hold what is seen of a triangle.
use Rattle.std.proofs.Common.{◌≡◌, ℕ, ◌+◌, ◌<◌, ◌≤◌, Bool, true, false, ◌&&◌, nat_le, Option, Some, None, ap, ◌∙◌, sym, subst, arith, refl}
use Rattle.std.specs.Prelude.{ℤ, pos, neg_ℤ, ◌+ℤ◌, ◌≤ℤ◌, unsigned_abs}
use Rattle.std.proofs.lemmas.Int.{ints}
use Rattle.std.proofs.lemmas.Bool.Decides.{nat_tests}
use Rattle.fx_math.specs.Plain.{Point}
use Rattle.fx_math.specs.declared.lenses.Lens.{Lens}
use Rattle.fx_math.specs.Hit.{depth_of}
use Rattle.tri_cover.specs.declared.extent.Extent.{Extent}
use Rattle.tri_cover.specs.declared.extent.Span.{Span}
use Rattle.tri_cover.specs.Extents.{IsExtentOf, AreBetween, AreNearer, AreFarther, AreBefore, IsSpanFrom, IsSpanOf, IsWhole, least_of, greatest_of, least_column, greatest_column, least_row, greatest_row}
use Rattle.tri_cover.specs.Faces.{is_in_span}
use Rattle.tri_cover.proofs.Depths.{depth_at_least, depth_at_most, depth_not_below, too_near, too_far, in_depth, same_depths, most_far}
use Rattle.tri_cover.proofs.Places.{IsBetween, columns_between, rows_between}

pub before_eye : (lens : Lens) (u v w : Point) → AreBetween lens u v w → AreBefore u v w
before_eye lens u v w h = record {
  first = omega (arith, ints, lens.in_range.before_eye, h.first.low);
  second = omega (arith, ints, lens.in_range.before_eye, h.second.low);
  third = omega (arith, ints, lens.in_range.before_eye, h.third.low);
}

-- ---- nothing is seen
pub nearer_unseen : (lens : Lens) (u v w : Point) → AreNearer lens u v w → IsExtentOf lens u v w None
nearer_unseen lens u v w h = λ px py volume e i.
    let most : depth_of lens volume e ≤ℤ (lens.near +ℤ neg_ℤ (pos 1)) =
    depth_at_most lens px py u v w volume e (lens.near +ℤ neg_ℤ (pos 1)) i (omega (arith, ints, h.first.near)) (omega (arith, ints, h.second.near)) (omega (arith, ints, h.third.near)) in
    too_near lens (depth_of lens volume e) (omega (arith, ints, most))

pub farther_unseen : (lens : Lens) (u v w : Point) → AreFarther lens u v w → IsExtentOf lens u v w None
farther_unseen lens u v w h = λ px py volume e i.
    let least : (lens.far +ℤ pos 1) ≤ℤ depth_of lens volume e =
    depth_at_least lens px py u v w volume e (lens.far +ℤ pos 1) i (omega (arith, ints, h.first.far)) (omega (arith, ints, h.second.far)) (omega (arith, ints, h.third.far)) in
    too_far lens (depth_of lens volume e) (omega (arith, ints, least))

pub no_column : (lens : Lens) (u v w : Point) → AreBetween lens u v w → IsSpanOf lens.w (least_column lens u v w) (greatest_column lens u v w) None → IsExtentOf lens u v w None
no_column lens u v w between none = λ px py volume e i.
    let b : IsBetween (least_column lens u v w) (greatest_column lens u v w) (pos px) = columns_between lens px py u v w volume e i (before_eye lens u v w between) in
    absurd (none px i.in_row b.low b.high)

pub no_row : (lens : Lens) (u v w : Point) → AreBetween lens u v w → IsSpanOf lens.h (least_row lens u v w) (greatest_row lens u v w) None → IsExtentOf lens u v w None
no_row lens u v w between none = λ px py volume e i.
    let b : IsBetween (least_row lens u v w) (greatest_row lens u v w) (pos py) = rows_between lens px py u v w volume e i (before_eye lens u v w between) in
    absurd (none py i.in_picture b.low b.high)

-- ---- all that is seen
both : (a b : Bool) → a ≡ true → b ≡ true → (a && b) ≡ true
both true true p q = refl
both true false p q = cc
both false b p q = cc

pub between_seen : (lens : Lens) (u v w : Point) (x : Extent) → AreBetween lens u v w → IsSpanFrom lens.w (least_column lens u v w) (greatest_column lens u v w) x.columns → IsSpanFrom lens.h (least_row lens u v w) (greatest_row lens u v w) x.rows → x.near ≡ 0 → x.far ≡ 4294967295 → IsExtentOf lens u v w (Some x)
between_seen lens u v w x between columns rows near far = λ px py volume e i.
    let depth = depth_of lens volume e in
    let column : IsBetween (least_column lens u v w) (greatest_column lens u v w) (pos px) = columns_between lens px py u v w volume e i (before_eye lens u v w between) in
    let row : IsBetween (least_row lens u v w) (greatest_row lens u v w) (pos py) = rows_between lens px py u v w volume e i (before_eye lens u v w between) in
    let low : lens.near ≤ℤ depth = depth_at_least lens px py u v w volume e lens.near i between.first.low between.second.low between.third.low in
    let high : depth ≤ℤ lens.far = depth_at_most lens px py u v w volume e lens.far i between.first.high between.second.high between.third.high in
    record {
      in_box = both (is_in_span x.columns px) (is_in_span x.rows py) (columns.holds px i.in_row column.low column.high) (rows.holds py i.in_picture row.low row.high);
      seen = in_depth lens depth low high
          ∙ sym (ap (λ (n : ℕ). nat_le n (unsigned_abs depth) && nat_le (unsigned_abs depth) x.far) near
          ∙ ap (λ (n : ℕ). nat_le 0 (unsigned_abs depth) && nat_le (unsigned_abs depth) n) far
          ∙ most_far lens depth (depth_not_below lens px py u v w volume e i) high);
    }

all_of_span : (first last size p : ℕ) → first ≡ 0 → last + 1 ≡ size → p < size → (nat_le first p && nat_le p last) ≡ true
all_of_span first last size p h g k =
    let low : first ≤ p = omega arith in
    let high : p ≤ last = omega arith in
    grind (arith, nat_tests)

pub whole_seen : (lens : Lens) (u v w : Point) (x : Extent) → IsWhole lens x → IsExtentOf lens u v w (Some x)
whole_seen lens u v w x h = λ px py volume e i.
    record {
      in_box = both (is_in_span x.columns px) (is_in_span x.rows py)
          (all_of_span x.columns.first x.columns.last lens.w px h.first_column h.last_column i.in_row)
          (all_of_span x.rows.first x.rows.last lens.h py h.first_row h.last_row i.in_picture);
      seen = same_depths lens x.near x.far (depth_of lens volume e) h.near_is h.far_is (depth_not_below lens px py u v w volume e i);
    }

-- ---- the same places
pub span_same : (size : ℕ) (p p' q q' r r' : ℤ) (o : Option Span) → p ≡ p' → q ≡ q' → r ≡ r' → IsSpanOf size (least_of p q r) (greatest_of p q r) o → IsSpanOf size (least_of p' q' r') (greatest_of p' q' r') o
span_same size p p' q q' r r' o a b c h =
    subst (λ (z : ℤ). IsSpanOf size (least_of p' q' z) (greatest_of p' q' z) o) c
    (subst (λ (z : ℤ). IsSpanOf size (least_of p' z r) (greatest_of p' z r) o) b
    (subst (λ (z : ℤ). IsSpanOf size (least_of z q r) (greatest_of z q r) o) a h))
