-- A segment that crosses a triangle reaches into each box around it.
use Rattle.std.proofs.Common.{◌≡◌, ℕ, Bool, true, false, Option, Some, None, inl, inr, arith, refl}
use Rattle.std.specs.Prelude.{ℤ, pos, neg_ℤ, ◌+ℤ◌, ◌-ℤ◌, ◌*ℤ◌, ◌≤ℤ◌, IsTrue, IsSome}
use Rattle.std.specs.Int.{int_min, int_max}
use Rattle.std.proofs.lemmas.Int.{int_min_is, int_max_is, by_lt_z}
use Rattle.fx_math.specs.Plain.{Point, Bounds, Holds}
use Rattle.fx_math.specs.Views.{point_of}
use Rattle.fx_math.specs.Fixed.{hull, box_at}
use Rattle.fx_math.specs.Hit.{Edges, edges}
use Rattle.fx_math.specs.Laws.{side}
use Rattle.fx_math.proofs.Ring.{expand, linear, order, times_le, times_lt, neg-mul}
use Rattle.fx_math.proofs.Cramer.{cramer_x, cramer_y, cramer_z}
use Rattle.nearest_hit.specs.Crossings.{is_crossed, turned, edges_between, volume_at, crossing_between}
use Rattle.nearest_hit.specs.Touch.{overlap, touch}
use Rattle.nearest_hit.specs.Segments.{box_around, crossing_time}
use Rattle.nearest_hit.specs.declared.segment.Segment.{Segment}
use Rattle.nearest_hit.proofs.Crossed.{IsAhead, crossed_cases, judged_missed}
use Rattle.nearest_hit.proofs.CommonPoints.{overlap_true, all_true}

-- ---- products, spread
spread_sum : (x y z k : ℤ) → (x +ℤ y +ℤ z) *ℤ k ≡ x *ℤ k +ℤ y *ℤ k +ℤ z *ℤ k
spread_sum x y z k = simp expand (omega (arith, linear))

spread_rest : (x y z v k : ℤ) → (x +ℤ y +ℤ z -ℤ v) *ℤ k ≡ x *ℤ k +ℤ y *ℤ k +ℤ z *ℤ k -ℤ v *ℤ k
spread_rest x y z v k = simp expand (omega (arith, linear))

spread_side : (v q p : ℤ) → v *ℤ (q -ℤ p) ≡ v *ℤ q -ℤ v *ℤ p
spread_side v q p = simp expand (omega (arith, linear))

-- ---- one coordinate
-- the edge values weigh the heights a, b and c over p to the volume times that of q over p
abbrev Weighs : (volume : ℤ) → Edges → (p q a b c : ℤ) → Type 0
Weighs volume e p q a b c = e.e0 *ℤ (a -ℤ p) +ℤ e.e1 *ℤ (b -ℤ p) +ℤ e.e2 *ℤ (c -ℤ p) ≡ volume *ℤ (q -ℤ p)

low_ahead : (volume : ℤ) (e : Edges) (p q a b c low : ℤ) → IsAhead volume e → Weighs volume e p q a b c → low ≤ℤ a → low ≤ℤ b → low ≤ℤ c → low ≤ℤ int_max p q
low_ahead volume e p q a b c low h weighs la lb lc = by_lt_z (int_max p q) low
    (λ below.
    let m = int_max p q in
    let first : p ≤ℤ int_max p q = omega (arith, order, int_max_is p q) in
    let second : q ≤ℤ int_max p q = omega (arith, order, int_max_is p q) in
    let rest : pos 0 ≤ℤ (e.e0 +ℤ e.e1 +ℤ e.e2 -ℤ volume) = omega (arith, order, h.most) in
    absurd (omega (
      arith,
      order,
      weighs,
      spread_side e.e0 a p,
      spread_side e.e1 b p,
      spread_side e.e2 c p,
      spread_side volume q p,
      times_le e.e0 low a h.e0 la,
      times_le e.e1 low b h.e1 lb,
      times_le e.e2 low c h.e2 lc,
      times_le (e.e0 +ℤ e.e1 +ℤ e.e2 -ℤ volume) p m rest first,
      spread_rest e.e0 e.e1 e.e2 volume p,
      spread_rest e.e0 e.e1 e.e2 volume m,
      times_le volume q m h.some second,
      times_lt (e.e0 +ℤ e.e1 +ℤ e.e2) m low h.sum below,
      spread_sum e.e0 e.e1 e.e2 m,
      spread_sum e.e0 e.e1 e.e2 low,
    )))
    (λ at_least. at_least)

high_ahead : (volume : ℤ) (e : Edges) (p q a b c high : ℤ) → IsAhead volume e → Weighs volume e p q a b c → a ≤ℤ high → b ≤ℤ high → c ≤ℤ high → int_min p q ≤ℤ high
high_ahead volume e p q a b c high h weighs ha hb hc = by_lt_z high (int_min p q)
    (λ below.
    let m = int_min p q in
    let first : int_min p q ≤ℤ p = omega (arith, order, int_min_is p q) in
    let second : int_min p q ≤ℤ q = omega (arith, order, int_min_is p q) in
    let rest : pos 0 ≤ℤ (e.e0 +ℤ e.e1 +ℤ e.e2 -ℤ volume) = omega (arith, order, h.most) in
    absurd (omega (
      arith,
      order,
      weighs,
      spread_side e.e0 a p,
      spread_side e.e1 b p,
      spread_side e.e2 c p,
      spread_side volume q p,
      times_le e.e0 a high h.e0 ha,
      times_le e.e1 b high h.e1 hb,
      times_le e.e2 c high h.e2 hc,
      times_le (e.e0 +ℤ e.e1 +ℤ e.e2 -ℤ volume) m p rest first,
      spread_rest e.e0 e.e1 e.e2 volume p,
      spread_rest e.e0 e.e1 e.e2 volume m,
      times_le volume m q h.some second,
      times_lt (e.e0 +ℤ e.e1 +ℤ e.e2) high m h.sum below,
      spread_sum e.e0 e.e1 e.e2 m,
      spread_sum e.e0 e.e1 e.e2 high,
    )))
    (λ at_least. at_least)

-- the same with all signs turned
weighs_turned : (volume : ℤ) (e : Edges) (p q a b c : ℤ) → Weighs volume e p q a b c → Weighs (neg_ℤ volume) (turned e) p q a b c
weighs_turned volume e p q a b c weighs =
    omega (arith, order, weighs, neg-mul e.e0 (a -ℤ p), neg-mul e.e1 (b -ℤ p), neg-mul e.e2 (c -ℤ p), neg-mul volume (q -ℤ p))

-- the range from the least to the greatest of p and q and the range from low to high have a common number
overlaps : (volume : ℤ) (e : Edges) (p q a b c low high : ℤ) → IsTrue (is_crossed volume e) → Weighs volume e p q a b c →
    low ≤ℤ a → low ≤ℤ b → low ≤ℤ c → a ≤ℤ high → b ≤ℤ high → c ≤ℤ high → (low ≤ℤ int_max p q) × (int_min p q ≤ℤ high)
overlaps volume e p q a b c low high crossed weighs la lb lc ha hb hc =
    elim (crossed_cases volume e crossed) [
      | inl f ↦ (low_ahead volume e p q a b c low f weighs la lb lc, high_ahead volume e p q a b c high f weighs ha hb hc)
      | inr t ↦ (
        low_ahead (neg_ℤ volume) (turned e) p q a b c low t (weighs_turned volume e p q a b c weighs) la lb lc,
        high_ahead (neg_ℤ volume) (turned e) p q a b c high t (weighs_turned volume e p q a b c weighs) ha hb hc,
      )
    ]

-- ---- boxes
touches : (p q u v w : Point) (b : Bounds) → Holds b u → Holds b v → Holds b w → IsTrue (is_crossed (volume_at p u v w) (edges_between p q u v w)) → touch (hull (box_at p) (box_at q)) b ≡ true
unfolding touch hull edges
touches p q u v w b hu hv hw crossed =
    let x = overlaps (volume_at p u v w) (edges_between p q u v w) p.x q.x u.x v.x w.x b.lo.x b.hi.x crossed (cramer_x (side p q) (side p u) (side p v) (side p w)) hu.x_low hv.x_low hw.x_low hu.x_high hv.x_high hw.x_high in
    let y = overlaps (volume_at p u v w) (edges_between p q u v w) p.y q.y u.y v.y w.y b.lo.y b.hi.y crossed (cramer_y (side p q) (side p u) (side p v) (side p w)) hu.y_low hv.y_low hw.y_low hu.y_high hv.y_high hw.y_high in
    let z = overlaps (volume_at p u v w) (edges_between p q u v w) p.z q.z u.z v.z w.z b.lo.z b.hi.z crossed (cramer_z (side p q) (side p u) (side p v) (side p w)) hu.z_low hv.z_low hw.z_low hu.z_high hv.z_high hw.z_high in
    all_true (overlap (int_min p.x q.x) (int_max p.x q.x) b.lo.x b.hi.x) (overlap (int_min p.y q.y) (int_max p.y q.y) b.lo.y b.hi.y) (overlap (int_min p.z q.z) (int_max p.z q.z) b.lo.z b.hi.z)
    (overlap_true (int_min p.x q.x) (int_max p.x q.x) b.lo.x b.hi.x x.1 x.0)
    (overlap_true (int_min p.y q.y) (int_max p.y q.y) b.lo.y b.hi.y y.1 y.0)
    (overlap_true (int_min p.z q.z) (int_max p.z q.z) b.lo.z b.hi.z z.1 z.0)

pub untouched_none : (p q u v w : Point) (b : Bounds) → Holds b u → Holds b v → Holds b w → touch (hull (box_at p) (box_at q)) b ≡ false → crossing_between p q u v w ≡ None
untouched_none p q u v w b hu hv hw apart = by (is_crossed (volume_at p u v w) (edges_between p q u v w)) refl
  where
    by : (t : Bool) → is_crossed (volume_at p u v w) (edges_between p q u v w) ≡ t → crossing_between p q u v w ≡ None
    by true e = let touched : touch (hull (box_at p) (box_at q)) b ≡ true = touches p q u v w b hu hv hw e in absurd (cc)
    by false e = judged_missed (volume_at p u v w) (edges_between p q u v w) e

pub hit_touches : (s : Segment) (u v w : Point) (b : Bounds) → Holds b u → Holds b v → Holds b w → IsSome (crossing_time s u v w) → touch (box_around s) b ≡ true
hit_touches s u v w b hu hv hw hit = by (touch (box_around s) b) refl
  where
    none_is_some : (o : Option ℕ) → o ≡ None → IsSome o → ⊥
    none_is_some None e h = absurd (cc)
    none_is_some (Some t) e h = absurd (cc)

    by : (t : Bool) → touch (box_around s) b ≡ t → touch (box_around s) b ≡ true
    by true e = e
    by false e = absurd (none_is_some (crossing_time s u v w) (untouched_none (point_of s.from) (point_of s.to) u v w b hu hv hw e) hit)
