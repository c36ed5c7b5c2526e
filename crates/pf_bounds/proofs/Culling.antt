-- Culling is safe: no pixel is hit by a triangle in a box that is outside, and a part of such a box is outside.
use Rattle.std.proofs.Common.{◌≡◌, ◌≢◌, ℕ, ◌*◌, ◌<◌, refl, ap, sym, subst, ◌∙◌, inl, inr, arith}
use Rattle.std.specs.Prelude.{ℤ, pos, neg_ℤ, ◌-ℤ◌, ◌*ℤ◌, ◌≤ℤ◌, ◌<ℤ◌, ◌||◌, IsTrue, int_lt, int_le, ◌⊎◌}
use Rattle.std.proofs.lemmas.Bool.{or_cases, or_left, or_right, and_parts, false_from_ne_true}
use Rattle.std.proofs.lemmas.Int.{ints, by_lt_z}
use lib.IntN.{*ℤ_comm, *ℤ-zero}
use Rattle.fx_math.specs.declared.lenses.Lens.{Lens}
use Rattle.fx_math.specs.Plain.{Point, Bounds, Holds, IsInside}
use Rattle.fx_math.specs.Fixed.{floor_div}
use Rattle.fx_math.specs.Hit.{det3, ray, edges, sum_of, is_inside, depth_of, is_in_depth, is_hit}
use Rattle.fx_math.proofs.Ring.{expand, order, mul-neg, mul_left_comm, times_le, times_lt}
use Rattle.fx_math.proofs.Floor.{floor_at_least, floor_at_most, floor_neg}
use Rattle.fx_math.proofs.Cramer.{ray_forward, inside_cases, inside_sum}
use Rattle.pf_bounds.specs.Outside.{is_off_depth, is_beside, is_outside, HitsNothing, PartsAreOutside}
use Rattle.pf_bounds.proofs.Weights.{IsMet, front_met, back_met}

-- two orders, as a test and as a fact
either_below : (a b c d : ℤ) → IsTrue (int_lt a b || int_lt c d) → (a <ℤ b) ⊎ (c <ℤ d)
either_below a b c d h = elim (or_cases (int_lt a b) (int_lt c d) h) [ inl f ↦ inl (omega (arith, ints, f)) | inr f ↦ inr (omega (arith, ints, f)) ]

below_true : (a b : ℤ) → a <ℤ b → IsTrue (int_lt a b)
below_true a b h = grind (arith, ints)

first_below : (a b c d : ℤ) → a <ℤ b → IsTrue (int_lt a b || int_lt c d)
first_below a b c d h = or_left (int_lt a b) (int_lt c d) (below_true a b h)

second_below : (a b c d : ℤ) → c <ℤ d → IsTrue (int_lt a b || int_lt c d)
second_below a b c d h = or_right (int_lt a b) (int_lt c d) (below_true c d h)

-- where a direction of at most m meets a range from `low` at a depth of at most h, the range does not begin beyond
side : (sum volume k low d m h : ℤ) → pos 0 <ℤ sum → pos 0 <ℤ volume → pos 0 <ℤ k → pos 0 ≤ℤ m →
    (sum *ℤ low) ≤ℤ (volume *ℤ d) → d ≤ℤ m → (volume *ℤ k) ≤ℤ (sum *ℤ h) → (k *ℤ low) ≤ℤ (m *ℤ h)
side sum volume k low d m h s v f g meets most deep = by_lt_z (m *ℤ h) (k *ℤ low)
    (λ beyond.
    let focus : pos 0 ≤ℤ k = omega (arith, ints) in
    let above : pos 0 ≤ℤ (volume *ℤ k) = omega (arith, order, times_lt volume (pos 0) k v f, *ℤ-zero volume) in
    let turned : k *ℤ (volume *ℤ d) ≡ volume *ℤ k *ℤ d = simp expand in
    absurd (omega (
      arith,
      order,
      times_lt sum (m *ℤ h) (k *ℤ low) s beyond,
      times_le k (sum *ℤ low) (volume *ℤ d) focus meets,
      mul_left_comm k sum low,
      turned,
      times_le (volume *ℤ k) d m above most,
      *ℤ_comm (volume *ℤ k) m,
      times_le m (volume *ℤ k) (sum *ℤ h) g deep,
      mul_left_comm m sum h,
    )))
    (λ at_most. at_most)

-- a direction through a pixel
record IsThrough (lens : Lens) (d : Point) : Type 0 where
  forward : d.y ≡ pos (2 * lens.f)
  right : d.x ≤ℤ (pos lens.w -ℤ pos 1)
  left : neg_ℤ d.x ≤ℤ (pos lens.w -ℤ pos 1)
  above : d.z ≤ℤ (pos lens.h -ℤ pos 1)
  below : neg_ℤ d.z ≤ℤ (pos lens.h -ℤ pos 1)

ray_through : (lens : Lens) (px py : ℕ) → px < lens.w → py < lens.h → IsThrough lens (ray lens px py)
unfolding ray
ray_through lens px py column row = record {
  forward = refl;
  right = omega (arith, ints);
  left = omega (arith, ints);
  above = omega (arith, ints);
  below = omega (arith, ints);
}

-- a range that is met is not beside
not_beside : (focus size : ℕ) (low high depth sum volume d : ℤ) → 0 < focus → 0 < size → pos 0 <ℤ sum → pos 0 <ℤ volume →
    (sum *ℤ low) ≤ℤ (volume *ℤ d) → (volume *ℤ d) ≤ℤ (sum *ℤ high) → d ≤ℤ (pos size -ℤ pos 1) → neg_ℤ d ≤ℤ (pos size -ℤ pos 1) →
    (volume *ℤ pos (2 * focus)) ≤ℤ (sum *ℤ depth) → IsTrue (is_beside focus size low high depth) → ⊥
unfolding is_beside
not_beside focus size low high depth sum volume d f s some v meets met most least deep h =
    let wide : pos 0 ≤ℤ (pos size -ℤ pos 1) = omega (arith, ints) in
    let long : pos 0 <ℤ pos (2 * focus) = omega (arith, ints) in
    let turned : (sum *ℤ neg_ℤ high) ≤ℤ (volume *ℤ neg_ℤ d) = omega (arith, order, met, mul-neg sum high, mul-neg volume d) in
    let right = side sum volume (pos (2 * focus)) low d (pos size -ℤ pos 1) depth some v long wide meets most deep in
    let left = side sum volume (pos (2 * focus)) (neg_ℤ high) (neg_ℤ d) (pos size -ℤ pos 1) depth some v long wide turned least deep in
    elim (either_below ((pos size -ℤ pos 1) *ℤ depth) (pos (2 * focus) *ℤ low) ((pos size -ℤ pos 1) *ℤ depth) (neg_ℤ (pos (2 * focus) *ℤ high)) h) [
      | inl beyond ↦ absurd (omega (arith, order, beyond, right))
      | inr beyond ↦ absurd (omega (arith, order, beyond, left, mul-neg (pos (2 * focus)) high))
    ]

-- a depth in the lens's range rules out that the box is off in depth
not_off_depth : (lens : Lens) (b : Bounds) (volume sum : ℤ) → pos 0 <ℤ sum →
    (sum *ℤ b.lo.y) ≤ℤ (volume *ℤ pos (2 * lens.f)) → (volume *ℤ pos (2 * lens.f)) ≤ℤ (sum *ℤ b.hi.y) →
    IsTrue (is_in_depth lens (floor_div (pos (2 * lens.f) *ℤ volume) sum)) → IsTrue (is_off_depth lens b) → ⊥
unfolding is_off_depth is_in_depth
not_off_depth lens b volume sum s low high deep h =
    let within = and_parts (int_le lens.near (floor_div (pos (2 * lens.f) *ℤ volume) sum)) (int_le (floor_div (pos (2 * lens.f) *ℤ volume) sum) lens.far) deep in
    let turned : pos (2 * lens.f) *ℤ volume ≡ volume *ℤ pos (2 * lens.f) = *ℤ_comm (pos (2 * lens.f)) volume in
    let most : floor_div (pos (2 * lens.f) *ℤ volume) sum ≤ℤ b.hi.y = floor_at_most (pos (2 * lens.f) *ℤ volume) sum b.hi.y s (omega (arith, order, turned, high)) in
    let least : b.lo.y ≤ℤ floor_div (pos (2 * lens.f) *ℤ volume) sum = floor_at_least (pos (2 * lens.f) *ℤ volume) sum b.lo.y s (omega (arith, order, turned, low)) in
    elim (either_below b.hi.y lens.near lens.far b.lo.y h) [
      | inl near ↦ absurd (omega (arith, ints, near, most, within.0))
      | inr far ↦ absurd (omega (arith, ints, far, least, within.1))
    ]

-- a box that a pixel's ray meets, at a depth in the lens's range, is not outside
met_inside : (lens : Lens) (b : Bounds) (d : Point) (volume sum : ℤ) → IsMet b d volume sum → IsThrough lens d →
    IsTrue (is_in_depth lens (floor_div (pos (2 * lens.f) *ℤ volume) sum)) → IsTrue (is_outside lens b) → ⊥
unfolding is_outside
met_inside lens b d volume sum met through deep h =
    let forward : volume *ℤ d.y ≡ volume *ℤ pos (2 * lens.f) = ap (λ (z : ℤ). volume *ℤ z) through.forward in
    let low : (sum *ℤ b.lo.y) ≤ℤ (volume *ℤ pos (2 * lens.f)) = omega (arith, order, met.y_low, forward) in
    let high : (volume *ℤ pos (2 * lens.f)) ≤ℤ (sum *ℤ b.hi.y) = omega (arith, order, met.y_high, forward) in
    elim (or_cases (is_off_depth lens b || is_beside lens.f lens.w b.lo.x b.hi.x b.hi.y) (is_beside lens.f lens.h b.lo.z b.hi.z b.hi.y) h) [
      | inl first ↦ elim (or_cases (is_off_depth lens b) (is_beside lens.f lens.w b.lo.x b.hi.x b.hi.y) first) [
        | inl off ↦ not_off_depth lens b volume sum met.sum_above low high deep off
        | inr beside ↦ not_beside lens.f lens.w b.lo.x b.hi.x b.hi.y sum volume d.x (omega arith) (omega arith) met.sum_above met.volume_above
            met.x_low met.x_high through.right through.left high beside
      ]
      | inr beside ↦ not_beside lens.f lens.h b.lo.z b.hi.z b.hi.y sum volume d.z (omega arith) (omega arith) met.sum_above met.volume_above
          met.z_low met.z_high through.above through.below high beside
    ]

-- ---- no pixel is hit
hit_inside : (lens : Lens) (b : Bounds) (u v w : Point) (px py : ℕ) → Holds b u → Holds b v → Holds b w → px < lens.w → py < lens.h →
    IsTrue (is_hit lens px py u v w) → IsTrue (is_outside lens b) → ⊥
unfolding is_hit depth_of
hit_inside lens b u v w px py hu hv hw column row hit h =
    let d = ray lens px py in
    let parts = and_parts (is_inside (det3 u v w) (edges (ray lens px py) u v w)) (is_in_depth lens (depth_of lens (det3 u v w) (edges (ray lens px py) u v w))) hit in
    let through = ray_through lens px py column row in
    elim (inside_cases (det3 u v w) (edges d u v w) parts.0) [
      | inl front ↦ met_inside lens b d (det3 u v w) (sum_of (edges d u v w)) (front_met b u v w d hu hv hw (ray_forward lens px py) front) through parts.1 h
      | inr back ↦
          let met = back_met b u v w d hu hv hw (ray_forward lens px py) back in
          let apart : sum_of (edges (ray lens px py) u v w) ≢ pos 0 = inside_sum lens px py u v w parts.0 in
          let times : neg_ℤ (pos (2 * lens.f) *ℤ det3 u v w) ≡ pos (2 * lens.f) *ℤ neg_ℤ (det3 u v w) = sym (mul-neg (pos (2 * lens.f)) (det3 u v w)) in
          let depth : floor_div (pos (2 * lens.f) *ℤ neg_ℤ (det3 u v w)) (neg_ℤ (sum_of (edges (ray lens px py) u v w)))
          ≡ floor_div (pos (2 * lens.f) *ℤ det3 u v w) (sum_of (edges (ray lens px py) u v w)) =
          ap (λ (n : ℤ). floor_div n (neg_ℤ (sum_of (edges (ray lens px py) u v w)))) (sym times)
          ∙ floor_neg (pos (2 * lens.f) *ℤ det3 u v w) (sum_of (edges (ray lens px py) u v w)) apart in
          met_inside lens b d (neg_ℤ (det3 u v w)) (neg_ℤ (sum_of (edges d u v w))) met through
          (subst (λ (n : ℤ). IsTrue (is_in_depth lens n)) (sym depth) parts.1) h
    ]

pub outside_hidden : (lens : Lens) (b : Bounds) → IsTrue (is_outside lens b) → HitsNothing lens b
outside_hidden lens b h u v w hu hv hw px py column row =
    false_from_ne_true (is_hit lens px py u v w) (λ hit. hit_inside lens b u v w px py hu hv hw column row hit h)

-- ---- parts
part_beside : (focus size : ℕ) (low high depth low' high' depth' : ℤ) → 0 < size → low ≤ℤ low' → high' ≤ℤ high → depth' ≤ℤ depth →
    IsTrue (is_beside focus size low high depth) → IsTrue (is_beside focus size low' high' depth')
unfolding is_beside
part_beside focus size low high depth low' high' depth' some f g deep h =
    let wide : pos 0 ≤ℤ (pos size -ℤ pos 1) = omega (arith, ints) in
    let long : pos 0 ≤ℤ pos (2 * focus) = omega (arith, ints) in
    let less = times_le (pos size -ℤ pos 1) depth' depth wide deep in
    let more = times_le (pos (2 * focus)) low low' long f in
    let fewer = times_le (pos (2 * focus)) high' high long g in
    let limit = (pos size -ℤ pos 1) *ℤ depth in
    let limit' = (pos size -ℤ pos 1) *ℤ depth' in
    let k = pos (2 * focus) in
    elim (either_below limit (k *ℤ low) limit (neg_ℤ (k *ℤ high)) h) [
      | inl beyond ↦ first_below limit' (k *ℤ low') limit' (neg_ℤ (k *ℤ high')) (omega (arith, order, beyond, less, more))
      | inr beyond ↦ second_below limit' (k *ℤ low') limit' (neg_ℤ (k *ℤ high')) (omega (arith, order, beyond, less, fewer))
    ]

part_off_depth : (lens : Lens) (b part : Bounds) → IsInside part b → IsTrue (is_off_depth lens b) → IsTrue (is_off_depth lens part)
unfolding is_off_depth
part_off_depth lens b part inside h = elim (either_below b.hi.y lens.near lens.far b.lo.y h) [
  | inl near ↦ first_below part.hi.y lens.near lens.far part.lo.y (omega (arith, ints, near, inside.y_high))
  | inr far ↦ second_below part.hi.y lens.near lens.far part.lo.y (omega (arith, ints, far, inside.y_low))
]

pub outside_parts : (lens : Lens) (b : Bounds) → IsTrue (is_outside lens b) → PartsAreOutside lens b
unfolding is_outside
outside_parts lens b h part inside =
    let off = is_off_depth lens part in
    let wide = is_beside lens.f lens.w part.lo.x part.hi.x part.hi.y in
    let high = is_beside lens.f lens.h part.lo.z part.hi.z part.hi.y in
    elim (or_cases (is_off_depth lens b || is_beside lens.f lens.w b.lo.x b.hi.x b.hi.y) (is_beside lens.f lens.h b.lo.z b.hi.z b.hi.y) h) [
      | inl first ↦ or_left (off || wide) high (elim (or_cases (is_off_depth lens b) (is_beside lens.f lens.w b.lo.x b.hi.x b.hi.y) first) [
        | inl apart ↦ or_left off wide (part_off_depth lens b part inside apart)
        | inr beside ↦ or_right off wide (part_beside lens.f lens.w b.lo.x b.hi.x b.hi.y part.lo.x part.hi.x part.hi.y (omega arith) inside.x_low inside.x_high inside.y_high beside)
      ])
      | inr beside ↦ or_right (off || wide) high (part_beside lens.f lens.h b.lo.z b.hi.z b.hi.y part.lo.z part.hi.z part.hi.y (omega arith) inside.z_low inside.z_high inside.y_high beside)
    ]
