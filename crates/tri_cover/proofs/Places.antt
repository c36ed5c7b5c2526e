-- The pixels inside a triangle lie between those of its vertices.
use Rattle.std.proofs.Common.{◌≡◌, ℕ, ◌+◌, ◌-◌, ◌*◌, ◌≤◌, ap, ◌∙◌, arith}
use Rattle.std.specs.Prelude.{ℤ, pos, neg_ℤ, ◌+ℤ◌, ◌-ℤ◌, ◌*ℤ◌, ◌≤ℤ◌, ◌<ℤ◌}
use Rattle.std.proofs.lemmas.Int.{ints, clamps}
use Rattle.fx_math.specs.Plain.{Point}
use Rattle.fx_math.specs.declared.lenses.Lens.{Lens}
use Rattle.fx_math.specs.Hit.{Edges, ray}
use Rattle.fx_math.proofs.Ring.{expand, linear, order, times_lt, mul-neg}
use Rattle.fx_math.proofs.Floor.{below_floor}
use lib.IntN.{*ℤ-zero}
use Rattle.tri_cover.specs.Extents.{IsInside, AreBefore, place_times, first_place, last_place, least_of, greatest_of, least_column, greatest_column, least_row, greatest_row}
use Rattle.tri_cover.proofs.Weighing.{AreWeights, mix, mean_below}
use Rattle.tri_cover.proofs.Depths.{weights_of, sum_above}

-- a number between two others
pub record IsBetween (least greatest p : ℤ) : Type 0 where
  pub low : least ≤ℤ p
  pub high : p ≤ℤ greatest

least_below : (a b c : ℤ) → (least_of a b c ≤ℤ a) × (least_of a b c ≤ℤ b) × (least_of a b c ≤ℤ c)
least_below a b c = (omega (arith, ints, clamps), omega (arith, ints, clamps), omega (arith, ints, clamps))

greatest_above : (a b c : ℤ) → (a ≤ℤ greatest_of a b c) × (b ≤ℤ greatest_of a b c) × (c ≤ℤ greatest_of a b c)
greatest_above a b c = (omega (arith, ints, clamps), omega (arith, ints, clamps), omega (arith, ints, clamps))

-- ---- the mean of the places
mix_scaled : (a b c x y z k : ℤ) → mix a b c (k *ℤ x) (k *ℤ y) (k *ℤ z) ≡ k *ℤ mix a b c x y z
mix_scaled a b c x y z k = simp expand (omega (arith, linear))

mix_two : (a b c s t r x y z k n : ℤ) → mix a b c (k *ℤ s +ℤ n *ℤ x) (k *ℤ t +ℤ n *ℤ y) (k *ℤ r +ℤ n *ℤ z) ≡ k *ℤ mix a b c s t r +ℤ n *ℤ mix a b c x y z
mix_two a b c s t r x y z k n = simp expand (omega (arith, linear))

gathered : (k v s n : ℤ) → k *ℤ (v *ℤ s) +ℤ n *ℤ (v *ℤ k) ≡ (v *ℤ k) *ℤ (s +ℤ n)
gathered k v s n = simp expand (omega (arith, linear))

doubled : (m p : ℤ) → m *ℤ (pos 2 *ℤ p) ≡ (pos 2 *ℤ m) *ℤ p
doubled m p = simp expand (omega (arith, linear))

-- the weighed numerators make up twice the place times the weighed depths
places_mix : (a b c s t r x y z k n v side p : ℤ) → mix a b c x y z ≡ v *ℤ k → mix a b c s t r ≡ v *ℤ side → side +ℤ n ≡ pos 2 *ℤ p
    → mix a b c (k *ℤ s +ℤ n *ℤ x) (k *ℤ t +ℤ n *ℤ y) (k *ℤ r +ℤ n *ℤ z) ≡ (pos 2 *ℤ (v *ℤ k)) *ℤ p
places_mix a b c s t r x y z k n v side p depths sides place =
    mix_two a b c s t r x y z k n
    ∙ ap (λ (m : ℤ). k *ℤ m +ℤ n *ℤ mix a b c x y z) sides
    ∙ ap (λ (m : ℤ). k *ℤ (v *ℤ side) +ℤ n *ℤ m) depths
    ∙ gathered k v side n
    ∙ ap (λ (m : ℤ). (v *ℤ k) *ℤ m) place
    ∙ doubled (v *ℤ k) p

divisors_mix : (a b c x y z m : ℤ) → mix a b c x y z ≡ m → mix a b c (pos 2 *ℤ x) (pos 2 *ℤ y) (pos 2 *ℤ z) ≡ pos 2 *ℤ m
divisors_mix a b c x y z m h = mix_scaled a b c x y z (pos 2) ∙ ap (λ (n : ℤ). pos 2 *ℤ n) h

product_above : (v k : ℤ) → pos 0 <ℤ v → pos 0 <ℤ k → pos 0 <ℤ (pos 2 *ℤ (v *ℤ k))
product_above v k h g =
    let once : pos 0 <ℤ (v *ℤ k) = omega (arith, order, times_lt v (pos 0) k h g, *ℤ-zero v) in
    omega (arith, ints, once)

twice_above : (x : ℤ) → pos 1 ≤ℤ x → pos 0 <ℤ (pos 2 *ℤ x)
twice_above x h = omega (arith, ints, h)

mix_neg : (a b c x y z m p : ℤ) → mix a b c x y z ≡ m *ℤ p → mix a b c (neg_ℤ x) (neg_ℤ y) (neg_ℤ z) ≡ m *ℤ neg_ℤ p
mix_neg a b c x y z m p e = omega (arith, linear, order, e, mul-neg a x, mul-neg b y, mul-neg c z, mul-neg m p)

pub places_between : (f size p : ℕ) (a b c v s t r x y z : ℤ) → 1 ≤ f → 1 ≤ size → AreWeights a b c → pos 0 <ℤ (a +ℤ b +ℤ c) → pos 0 <ℤ v
    → pos 1 ≤ℤ x → pos 1 ≤ℤ y → pos 1 ≤ℤ z
    → mix a b c x y z ≡ v *ℤ pos (2 * f) → mix a b c s t r ≡ v *ℤ (pos (2 * p + 1) -ℤ pos size)
    → IsBetween (least_of (first_place f size s x) (first_place f size t y) (first_place f size r z)) (greatest_of (last_place f size s x) (last_place f size t y) (last_place f size r z)) (pos p)
places_between f size p a b c v s t r x y z focus some w weight volume i j k depths sides = record {
  low = omega (arith, ints, above_least);
  high = omega (arith, ints, below);
}
  where
    least : ℤ
    least = least_of (first_place f size s x) (first_place f size t y) (first_place f size r z)

    greatest : ℤ
    greatest = greatest_of (last_place f size s x) (last_place f size t y) (last_place f size r z)

    lows : (least ≤ℤ first_place f size s x) × (least ≤ℤ first_place f size t y) × (least ≤ℤ first_place f size r z)
    lows = least_below (first_place f size s x) (first_place f size t y) (first_place f size r z)

    highs : (last_place f size s x ≤ℤ greatest) × (last_place f size t y ≤ℤ greatest) × (last_place f size r z ≤ℤ greatest)
    highs = greatest_above (last_place f size s x) (last_place f size t y) (last_place f size r z)

    m : ℤ
    m = pos 2 *ℤ (v *ℤ pos (2 * f))

    above : pos 0 <ℤ m
    above = product_above v (pos (2 * f)) volume (omega (arith, ints, focus))

    divisors : mix a b c (pos 2 *ℤ x) (pos 2 *ℤ y) (pos 2 *ℤ z) ≡ m
    divisors = divisors_mix a b c x y z (v *ℤ pos (2 * f)) depths

    place : pos (2 * p + 1) -ℤ pos size +ℤ pos (size - 1) ≡ pos 2 *ℤ pos p
    place = omega (arith, ints, some)

    numerators : mix a b c (place_times f size s x) (place_times f size t y) (place_times f size r z) ≡ m *ℤ pos p
    numerators = places_mix a b c s t r x y z (pos (2 * f)) (pos (size - 1)) v (pos (2 * p + 1) -ℤ pos size) (pos p) depths sides place

    next : (q : ℤ) → q ≤ℤ greatest → q <ℤ (greatest +ℤ pos 1)
    next q h = omega (arith, ints, h)

    below : pos p <ℤ (greatest +ℤ pos 1)
    below = mean_below a b c (pos 2 *ℤ x) (pos 2 *ℤ y) (pos 2 *ℤ z) (place_times f size s x) (place_times f size t y) (place_times f size r z) m (pos p) (greatest +ℤ pos 1)
        w above weight divisors numerators
        (below_floor (place_times f size s x) (pos 2 *ℤ x) (greatest +ℤ pos 1) (twice_above x i) (next _ highs.0))
        (below_floor (place_times f size t y) (pos 2 *ℤ y) (greatest +ℤ pos 1) (twice_above y j) (next _ highs.1))
        (below_floor (place_times f size r z) (pos 2 *ℤ z) (greatest +ℤ pos 1) (twice_above z k) (next _ highs.2))

    -- the same of the numbers turned in sign
    turned : (q : ℤ) → least ≤ℤ neg_ℤ q → q <ℤ (neg_ℤ least +ℤ pos 1)
    turned q h = omega (arith, ints, h)

    above_least : neg_ℤ (pos p) <ℤ (neg_ℤ least +ℤ pos 1)
    above_least = mean_below a b c (pos 2 *ℤ x) (pos 2 *ℤ y) (pos 2 *ℤ z) (neg_ℤ (place_times f size s x)) (neg_ℤ (place_times f size t y)) (neg_ℤ (place_times f size r z)) m (neg_ℤ (pos p)) (neg_ℤ least +ℤ pos 1)
        w above weight divisors (mix_neg a b c (place_times f size s x) (place_times f size t y) (place_times f size r z) m (pos p) numerators)
        (below_floor (neg_ℤ (place_times f size s x)) (pos 2 *ℤ x) (neg_ℤ least +ℤ pos 1) (twice_above x i) (turned _ lows.0))
        (below_floor (neg_ℤ (place_times f size t y)) (pos 2 *ℤ y) (neg_ℤ least +ℤ pos 1) (twice_above y j) (turned _ lows.1))
        (below_floor (neg_ℤ (place_times f size r z)) (pos 2 *ℤ z) (neg_ℤ least +ℤ pos 1) (twice_above z k) (turned _ lows.2))

pub columns_between : (lens : Lens) (px py : ℕ) (u v w : Point) (volume : ℤ) (e : Edges) → IsInside lens px py u v w volume e → AreBefore u v w
    → IsBetween (least_column lens u v w) (greatest_column lens u v w) (pos px)
unfolding ray
columns_between lens px py u v w volume e i before =
    places_between lens.f lens.w px e.e0 e.e1 e.e2 volume u.x v.x w.x u.y v.y w.y lens.in_range.some_focus lens.in_range.some_width
    (weights_of lens px py u v w volume e i) (sum_above lens px py u v w volume e i) i.volume_above before.first before.second before.third
    (ap (λ (p : Point). p.y) i.mean) (ap (λ (p : Point). p.x) i.mean)

down_mix : (a b c x y z v h q : ℤ) → mix a b c x y z ≡ v *ℤ (h -ℤ q) → mix a b c (neg_ℤ x) (neg_ℤ y) (neg_ℤ z) ≡ v *ℤ (q -ℤ h)
down_mix a b c x y z v h q e =
    let turned : v *ℤ (q -ℤ h) ≡ neg_ℤ (v *ℤ (h -ℤ q)) = simp expand (omega (arith, linear)) in
    omega (arith, linear, order, e, turned, mul-neg a x, mul-neg b y, mul-neg c z)

pub rows_between : (lens : Lens) (px py : ℕ) (u v w : Point) (volume : ℤ) (e : Edges) → IsInside lens px py u v w volume e → AreBefore u v w
    → IsBetween (least_row lens u v w) (greatest_row lens u v w) (pos py)
unfolding ray
rows_between lens px py u v w volume e i before =
    places_between lens.f lens.h py e.e0 e.e1 e.e2 volume (neg_ℤ u.z) (neg_ℤ v.z) (neg_ℤ w.z) u.y v.y w.y lens.in_range.some_focus lens.in_range.some_height
    (weights_of lens px py u v w volume e i) (sum_above lens px py u v w volume e i) i.volume_above before.first before.second before.third
    (ap (λ (p : Point). p.y) i.mean)
    (down_mix e.e0 e.e1 e.e2 u.z v.z w.z volume (pos lens.h) (pos (2 * py + 1)) (ap (λ (p : Point). p.z) i.mean))
