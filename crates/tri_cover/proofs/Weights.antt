-- The edge values of a ray in a triangle.
use Rattle.std.proofs.Common.{◌≡◌, ◌≢◌, ℕ, ◌≤◌, sym, ap, ◌∙◌, subst, arith, ⊎_elim, true}
use Rattle.std.specs.Prelude.{ℤ, pos, neg_ℤ, ◌+ℤ◌, ◌*ℤ◌, ◌≤ℤ◌, ◌<ℤ◌}
use Rattle.std.proofs.lemmas.Bool.{or_cases}
use Rattle.std.proofs.lemmas.Int.{ints}
use Rattle.std.proofs.Math.IntN.{*ℤ-zero}
use lib.IntN.{*ℤ_comm}
use Rattle.fx_math.specs.Plain.{Point}
use Rattle.fx_math.specs.Fixed.{floor_div}
use Rattle.fx_math.specs.declared.lenses.Lens.{Lens}
use Rattle.fx_math.specs.Hit.{Edges, edges, sum_of, det3, ray, is_inside}
use Rattle.fx_math.proofs.Ring.{expand, linear, order, times_le}
use Rattle.fx_math.proofs.Cramer.{inside_sum}
use Rattle.fx_math.proofs.Floor.{floor_at_least, floor_at_most, floor_neg}
use Rattle.tri_cover.specs.Edges.{are_not_below_zero, are_not_above_zero, are_of_one_sign}

-- ---- a mean lies between its bounds
-- from 0 to 255
pub record IsByte (q : ℤ) : Type 0 where
  pub low : pos 0 ≤ℤ q
  pub high : q ≤ℤ pos 255

weighed_low : (n : ℕ) (a : ℤ) → pos 0 ≤ℤ a → pos 0 ≤ℤ (pos n *ℤ a)
weighed_low n a h = omega (arith, order, times_le (pos n) (pos 0) a (omega (arith, ints)) h, *ℤ-zero (pos n))

weighed_high : (n : ℕ) (a : ℤ) → n ≤ 255 → pos 0 ≤ℤ a → (pos n *ℤ a) ≤ℤ (pos 255 *ℤ a)
weighed_high n a most h = omega (arith, order, *ℤ_comm (pos n) a, *ℤ_comm (pos 255) a, times_le a (pos n) (pos 255) h (omega (arith, ints)))

mean_above : (a b c : ℤ) (x y z : ℕ) → pos 0 ≤ℤ a → pos 0 ≤ℤ b → pos 0 ≤ℤ c → pos 0 <ℤ (a +ℤ b +ℤ c) → x ≤ 255 → y ≤ 255 → z ≤ 255 → IsByte (floor_div (pos x *ℤ a +ℤ pos y *ℤ b +ℤ pos z *ℤ c) (a +ℤ b +ℤ c))
mean_above a b c x y z p q r some i j k = record {
  low = floor_at_least n d (pos 0) some (omega (arith, order, *ℤ-zero d, weighed_low x a p, weighed_low y b q, weighed_low z c r));
  high = floor_at_most n d (pos 255) some most;
}
  where
    n : ℤ
    n = pos x *ℤ a +ℤ pos y *ℤ b +ℤ pos z *ℤ c

    d : ℤ
    d = a +ℤ b +ℤ c

    times : d *ℤ pos 255 ≡ pos 255 *ℤ a +ℤ pos 255 *ℤ b +ℤ pos 255 *ℤ c
    times = simp expand (omega (arith, linear))

    most : n ≤ℤ (d *ℤ pos 255)
    most = omega (arith, order, times, weighed_high x a i p, weighed_high y b j q, weighed_high z c k r)

mean_below : (a b c : ℤ) (x y z : ℕ) → a ≤ℤ pos 0 → b ≤ℤ pos 0 → c ≤ℤ pos 0 → (a +ℤ b +ℤ c) <ℤ pos 0 → x ≤ 255 → y ≤ 255 → z ≤ 255 → IsByte (floor_div (pos x *ℤ a +ℤ pos y *ℤ b +ℤ pos z *ℤ c) (a +ℤ b +ℤ c))
mean_below a b c x y z p q r some i j k = subst (λ (w : ℤ). IsByte w) turned
    (mean_above (neg_ℤ a) (neg_ℤ b) (neg_ℤ c) x y z (omega (arith, ints)) (omega (arith, ints)) (omega (arith, ints)) (omega (arith, linear, order)) i j k)
  where
    n : ℤ
    n = pos x *ℤ a +ℤ pos y *ℤ b +ℤ pos z *ℤ c

    d : ℤ
    d = a +ℤ b +ℤ c

    neg_n : pos x *ℤ neg_ℤ a +ℤ pos y *ℤ neg_ℤ b +ℤ pos z *ℤ neg_ℤ c ≡ neg_ℤ n
    neg_n = simp expand (omega (arith, linear))

    neg_d : neg_ℤ a +ℤ neg_ℤ b +ℤ neg_ℤ c ≡ neg_ℤ d
    neg_d = omega (arith, linear)

    apart : d ≢ pos 0
    apart = λ e. omega (arith, order, ints)

    turned : floor_div (pos x *ℤ neg_ℤ a +ℤ pos y *ℤ neg_ℤ b +ℤ pos z *ℤ neg_ℤ c) (neg_ℤ a +ℤ neg_ℤ b +ℤ neg_ℤ c) ≡ floor_div n d
    turned = ap (λ (m : ℤ). floor_div m (neg_ℤ a +ℤ neg_ℤ b +ℤ neg_ℤ c)) neg_n ∙ ap (λ (m : ℤ). floor_div (neg_ℤ n) m) neg_d ∙ floor_neg n d apart

signs_above : (e : Edges) → are_not_below_zero e ≡ true → (pos 0 ≤ℤ e.e0) × (pos 0 ≤ℤ e.e1) × (pos 0 ≤ℤ e.e2)
signs_above e h = grind (arith, ints)

signs_below : (e : Edges) → are_not_above_zero e ≡ true → (e.e0 ≤ℤ pos 0) × (e.e1 ≤ℤ pos 0) × (e.e2 ≤ℤ pos 0)
signs_below e h = grind (arith, ints)

-- the mean of three bytes, weighed by numbers of one sign that are not all 0, is a byte
pub mean_is_byte : (e : Edges) (x y z : ℕ) → are_of_one_sign e ≡ true → sum_of e ≢ pos 0 → x ≤ 255 → y ≤ 255 → z ≤ 255 → IsByte (floor_div (pos x *ℤ e.e0 +ℤ pos y *ℤ e.e1 +ℤ pos z *ℤ e.e2) (sum_of e))
mean_is_byte e x y z h some i j k = ⊎_elim
    (λ above. let s : (pos 0 ≤ℤ e.e0) × (pos 0 ≤ℤ e.e1) × (pos 0 ≤ℤ e.e2) = signs_above e above in
    mean_above e.e0 e.e1 e.e2 x y z s.0 s.1 s.2 (omega (arith, ints, some, s.0, s.1, s.2)) i j k)
    (λ below. let s : (e.e0 ≤ℤ pos 0) × (e.e1 ≤ℤ pos 0) × (e.e2 ≤ℤ pos 0) = signs_below e below in
    mean_below e.e0 e.e1 e.e2 x y z s.0 s.1 s.2 (omega (arith, ints, some, s.0, s.1, s.2)) i j k)
    (or_cases (are_not_below_zero e) (are_not_above_zero e) h)

-- what is inside has edge values of one sign
pub inside_of_one_sign : (volume : ℤ) (e : Edges) → is_inside volume e ≡ true → are_of_one_sign e ≡ true
unfolding is_inside
inside_of_one_sign volume e h = grind arith

-- the edge values of a pixel inside do not sum up to 0
pub seen_pixel : (lens : Lens) (px py : ℕ) (u v w : Point) (volume : ℤ) (e : Edges) → volume ≡ det3 u v w → e ≡ edges (ray lens px py) u v w → is_inside volume e ≡ true → sum_of e ≢ pos 0
seen_pixel lens px py u v w volume e same_volume same_edges h = subst (λ (d : Edges). sum_of d ≢ pos 0) (sym same_edges)
    (inside_sum lens px py u v w
    (subst (λ (z : ℤ). is_inside z (edges (ray lens px py) u v w) ≡ true) same_volume (subst (λ (d : Edges). is_inside volume d ≡ true) same_edges h)))
