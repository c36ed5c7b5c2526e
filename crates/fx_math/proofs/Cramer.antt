-- Cramer's rule for the edge values, and what it says where a pixel is inside.
use Rattle.std.proofs.Common.{◌≡◌, ◌≢◌, ap, ◌∙◌, inl, inr, arith}
use Rattle.std.specs.Prelude.{ℕ, ℤ, pos, ◌+ℤ◌, ◌*ℤ◌, ◌≤ℤ◌, ◌<ℤ◌, neg_ℤ, int_lt, int_le, IsTrue, Bool, ◌&&◌, ◌⊎◌}
use Rattle.std.proofs.lemmas.Bool.{or_cases, and_parts}
use Rattle.std.proofs.lemmas.Int.{ints, by_lt_z}
use lib.IntN.{*ℤ-zero, zero-*ℤ}
use Rattle.fx_math.specs.Plain.{Point}
use Rattle.fx_math.specs.declared.lenses.Lens.{Lens}
use Rattle.fx_math.specs.Hit.{ray, det3, Edges, edges, sum_of, is_inside}
use Rattle.fx_math.specs.Laws.{side, weighed, scaled}
use Rattle.fx_math.proofs.Same.{point_same}
use Rattle.fx_math.proofs.Ring.{expand, linear, order, times_lt, neg-mul}

-- the edge values weigh the vertices to the multiple of the direction by the determinant of the vertices
pub cramer_x : (d u v w : Point) → det3 d v w *ℤ u.x +ℤ det3 u d w *ℤ v.x +ℤ det3 u v d *ℤ w.x ≡ det3 u v w *ℤ d.x
unfolding det3
cramer_x d u v w = simp expand (omega (arith, linear))

pub cramer_y : (d u v w : Point) → det3 d v w *ℤ u.y +ℤ det3 u d w *ℤ v.y +ℤ det3 u v d *ℤ w.y ≡ det3 u v w *ℤ d.y
unfolding det3
cramer_y d u v w = simp expand (omega (arith, linear))

pub cramer_z : (d u v w : Point) → det3 d v w *ℤ u.z +ℤ det3 u d w *ℤ v.z +ℤ det3 u v d *ℤ w.z ≡ det3 u v w *ℤ d.z
unfolding det3
cramer_z d u v w = simp expand (omega (arith, linear))

pub cramer : (d u v w : Point) → weighed (edges d u v w) u v w ≡ scaled (det3 u v w) d
unfolding edges
cramer d u v w = point_same (scaled (det3 u v w) d) _ _ _ (cramer_x d u v w) (cramer_y d u v w) (cramer_z d u v w)

-- the sum of the edge values is the determinant of the direction and two sides
pub sum_parallel : (d u v w : Point) → sum_of (edges d u v w) ≡ det3 d (side u v) (side u w)
unfolding det3 edges
sum_parallel d u v w = simp expand (omega (arith, linear))

-- the two ways to be inside: the determinant is above 0 and no edge value below it, or the other way round
pub record IsFront (volume : ℤ) (e : Edges) : Type 0 where
  pub volume_above : pos 0 <ℤ volume
  pub e0_above : pos 0 ≤ℤ e.e0
  pub e1_above : pos 0 ≤ℤ e.e1
  pub e2_above : pos 0 ≤ℤ e.e2

pub record IsBack (volume : ℤ) (e : Edges) : Type 0 where
  pub volume_below : volume <ℤ pos 0
  pub e0_below : e.e0 ≤ℤ pos 0
  pub e1_below : e.e1 ≤ℤ pos 0
  pub e2_below : e.e2 ≤ℤ pos 0

all_four : (a b c d : Bool) → IsTrue (a && (b && c && d)) → IsTrue a × IsTrue b × IsTrue c × IsTrue d
all_four a b c d h =
    let first = and_parts a (b && c && d) h in
    let rest = and_parts (b && c) d first.1 in
    let middle = and_parts b c rest.0 in
    (first.0, middle.0, middle.1, rest.1)

front : (volume : ℤ) (e : Edges) → IsTrue (int_lt (pos 0) volume && (int_le (pos 0) e.e0 && int_le (pos 0) e.e1 && int_le (pos 0) e.e2)) → IsFront volume e
front volume e h =
    let all = all_four (int_lt (pos 0) volume) (int_le (pos 0) e.e0) (int_le (pos 0) e.e1) (int_le (pos 0) e.e2) h in
    record { volume_above = omega (arith, ints, all.0); e0_above = omega (arith, ints, all.1); e1_above = omega (arith, ints, all.2); e2_above = omega (arith, ints, all.3) }

back : (volume : ℤ) (e : Edges) → IsTrue (int_lt volume (pos 0) && (int_le e.e0 (pos 0) && int_le e.e1 (pos 0) && int_le e.e2 (pos 0))) → IsBack volume e
back volume e h =
    let all = all_four (int_lt volume (pos 0)) (int_le e.e0 (pos 0)) (int_le e.e1 (pos 0)) (int_le e.e2 (pos 0)) h in
    record { volume_below = omega (arith, ints, all.0); e0_below = omega (arith, ints, all.1); e1_below = omega (arith, ints, all.2); e2_below = omega (arith, ints, all.3) }

pub inside_cases : (volume : ℤ) (e : Edges) → IsTrue (is_inside volume e) → IsFront volume e ⊎ IsBack volume e
unfolding is_inside
inside_cases volume e h = elim (or_cases _ _ h) [ inl f ↦ inl (front volume e f) | inr b ↦ inr (back volume e b) ]

-- where edge values that are not negative weigh some heights to a multiple above 0, one of them is above 0
pub front_sum : (volume e0 e1 e2 a b c k : ℤ) → pos 0 <ℤ volume → pos 0 ≤ℤ e0 → pos 0 ≤ℤ e1 → pos 0 ≤ℤ e2 →
    pos 0 <ℤ k → e0 *ℤ a +ℤ e1 *ℤ b +ℤ e2 *ℤ c ≡ volume *ℤ k → pos 0 <ℤ (e0 +ℤ e1 +ℤ e2)
front_sum volume e0 e1 e2 a b c k v p q r some e = by_lt_z (pos 0) (e0 +ℤ e1 +ℤ e2) (λ above. above)
    (λ none.
    let z0 : e0 ≡ pos 0 = omega (arith, ints) in
    let z1 : e1 ≡ pos 0 = omega (arith, ints) in
    let z2 : e2 ≡ pos 0 = omega (arith, ints) in
    absurd (omega (
      arith,
      order,
      e,
      times_lt volume (pos 0) k v some,
      *ℤ-zero volume,
      ap (λ (z : ℤ). z *ℤ a) z0 ∙ zero-*ℤ a,
      ap (λ (z : ℤ). z *ℤ b) z1 ∙ zero-*ℤ b,
      ap (λ (z : ℤ). z *ℤ c) z2 ∙ zero-*ℤ c,
    )))

-- the same with all signs turned
pub back_sum : (volume e0 e1 e2 a b c k : ℤ) → volume <ℤ pos 0 → e0 ≤ℤ pos 0 → e1 ≤ℤ pos 0 → e2 ≤ℤ pos 0 →
    pos 0 <ℤ k → e0 *ℤ a +ℤ e1 *ℤ b +ℤ e2 *ℤ c ≡ volume *ℤ k → (e0 +ℤ e1 +ℤ e2) <ℤ pos 0
back_sum volume e0 e1 e2 a b c k v p q r some e =
    let flipped : neg_ℤ e0 *ℤ a +ℤ neg_ℤ e1 *ℤ b +ℤ neg_ℤ e2 *ℤ c ≡ neg_ℤ volume *ℤ k =
    omega (arith, order, e, neg-mul e0 a, neg-mul e1 b, neg-mul e2 c, neg-mul volume k) in
    let sum : pos 0 <ℤ (neg_ℤ e0 +ℤ neg_ℤ e1 +ℤ neg_ℤ e2) =
    front_sum (neg_ℤ volume) (neg_ℤ e0) (neg_ℤ e1) (neg_ℤ e2) a b c k (omega (arith, ints)) (omega (arith, ints)) (omega (arith, ints)) (omega (arith, ints)) some flipped in
    omega (arith, ints, sum)

-- a ray goes forward
pub ray_forward : (lens : Lens) (px py : ℕ) → pos 0 <ℤ (ray lens px py).y
unfolding ray
ray_forward lens px py = omega (arith, ints, lens.in_range.some_focus)

-- where a pixel is inside, the edge values have a sum that is not 0, of the sign of the determinant
pub inside_sum : (lens : Lens) (px py : ℕ) (u v w : Point) →
    IsTrue (is_inside (det3 u v w) (edges (ray lens px py) u v w)) → sum_of (edges (ray lens px py) u v w) ≢ pos 0
unfolding edges
inside_sum lens px py u v w h zero =
    let d = ray lens px py in
    elim (inside_cases (det3 u v w) (edges d u v w) h) [
      | inl f ↦ absurd (omega (
        arith,
        ints,
        zero,
        front_sum (det3 u v w) (det3 d v w) (det3 u d w) (det3 u v d) u.y v.y w.y d.y
            f.volume_above f.e0_above f.e1_above f.e2_above (ray_forward lens px py) (cramer_y d u v w),
      ))
      | inr b ↦ absurd (omega (
        arith,
        ints,
        zero,
        back_sum (det3 u v w) (det3 d v w) (det3 u d w) (det3 u v d) u.y v.y w.y d.y
            b.volume_below b.e0_below b.e1_below b.e2_below (ray_forward lens px py) (cramer_y d u v w),
      ))
    ]
