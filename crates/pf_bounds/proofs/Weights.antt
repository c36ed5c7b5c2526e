-- The edge values of a pixel that is inside are weights: the ray goes through a point of each box around the vertices.
use Rattle.std.proofs.Common.{◌≡◌, subst, arith}
use Rattle.std.specs.Prelude.{ℤ, pos, neg_ℤ, ◌+ℤ◌, ◌*ℤ◌, ◌≤ℤ◌, ◌<ℤ◌}
use Rattle.std.proofs.lemmas.Int.{ints}
use Rattle.fx_math.specs.Plain.{Point, Bounds, Holds}
use Rattle.fx_math.specs.Hit.{det3, edges, sum_of}
use Rattle.fx_math.proofs.Ring.{order, linear, add-mul, neg-mul, times_le}
use Rattle.fx_math.proofs.Cramer.{cramer_x, cramer_y, cramer_z, front_sum, IsFront, IsBack}

-- a weighed sum lies between the multiples of the bounds
weighed_low : (a b c x y z low : ℤ) → pos 0 ≤ℤ a → pos 0 ≤ℤ b → pos 0 ≤ℤ c → low ≤ℤ x → low ≤ℤ y → low ≤ℤ z →
    ((a +ℤ b +ℤ c) *ℤ low) ≤ℤ (a *ℤ x +ℤ b *ℤ y +ℤ c *ℤ z)
weighed_low a b c x y z low p q r f g h =
    omega (arith, order, times_le a low x p f, times_le b low y q g, times_le c low z r h, add-mul (a +ℤ b) c low, add-mul a b low)

weighed_high : (a b c x y z high : ℤ) → pos 0 ≤ℤ a → pos 0 ≤ℤ b → pos 0 ≤ℤ c → x ≤ℤ high → y ≤ℤ high → z ≤ℤ high →
    (a *ℤ x +ℤ b *ℤ y +ℤ c *ℤ z) ≤ℤ ((a +ℤ b +ℤ c) *ℤ high)
weighed_high a b c x y z high p q r f g h =
    omega (arith, order, times_le a x high p f, times_le b y high q g, times_le c z high r h, add-mul (a +ℤ b) c high, add-mul a b high)

-- volume / sum times the direction is a point of the box
pub record IsMet (b : Bounds) (d : Point) (volume sum : ℤ) : Type 0 where
  pub volume_above : pos 0 <ℤ volume
  pub sum_above : pos 0 <ℤ sum
  pub x_low : (sum *ℤ b.lo.x) ≤ℤ (volume *ℤ d.x)
  pub x_high : (volume *ℤ d.x) ≤ℤ (sum *ℤ b.hi.x)
  pub y_low : (sum *ℤ b.lo.y) ≤ℤ (volume *ℤ d.y)
  pub y_high : (volume *ℤ d.y) ≤ℤ (sum *ℤ b.hi.y)
  pub z_low : (sum *ℤ b.lo.z) ≤ℤ (volume *ℤ d.z)
  pub z_high : (volume *ℤ d.z) ≤ℤ (sum *ℤ b.hi.z)

-- by weights that are not negative and weigh the vertices to the multiple of the direction
met : (b : Bounds) (u v w d : Point) (volume e0 e1 e2 : ℤ) → Holds b u → Holds b v → Holds b w →
    pos 0 <ℤ volume → pos 0 ≤ℤ e0 → pos 0 ≤ℤ e1 → pos 0 ≤ℤ e2 → pos 0 <ℤ d.y →
    e0 *ℤ u.x +ℤ e1 *ℤ v.x +ℤ e2 *ℤ w.x ≡ volume *ℤ d.x →
    e0 *ℤ u.y +ℤ e1 *ℤ v.y +ℤ e2 *ℤ w.y ≡ volume *ℤ d.y →
    e0 *ℤ u.z +ℤ e1 *ℤ v.z +ℤ e2 *ℤ w.z ≡ volume *ℤ d.z →
    IsMet b d volume (e0 +ℤ e1 +ℤ e2)
met b u v w d volume e0 e1 e2 hu hv hw some p q r forward ex ey ez = record {
  volume_above = some;
  sum_above = front_sum volume e0 e1 e2 u.y v.y w.y d.y some p q r forward ey;
  x_low = omega (arith, order, ex, weighed_low e0 e1 e2 u.x v.x w.x b.lo.x p q r hu.x_low hv.x_low hw.x_low);
  x_high = omega (arith, order, ex, weighed_high e0 e1 e2 u.x v.x w.x b.hi.x p q r hu.x_high hv.x_high hw.x_high);
  y_low = omega (arith, order, ey, weighed_low e0 e1 e2 u.y v.y w.y b.lo.y p q r hu.y_low hv.y_low hw.y_low);
  y_high = omega (arith, order, ey, weighed_high e0 e1 e2 u.y v.y w.y b.hi.y p q r hu.y_high hv.y_high hw.y_high);
  z_low = omega (arith, order, ez, weighed_low e0 e1 e2 u.z v.z w.z b.lo.z p q r hu.z_low hv.z_low hw.z_low);
  z_high = omega (arith, order, ez, weighed_high e0 e1 e2 u.z v.z w.z b.hi.z p q r hu.z_high hv.z_high hw.z_high);
}

pub front_met : (b : Bounds) (u v w d : Point) → Holds b u → Holds b v → Holds b w → pos 0 <ℤ d.y →
    IsFront (det3 u v w) (edges d u v w) → IsMet b d (det3 u v w) (sum_of (edges d u v w))
unfolding edges
front_met b u v w d hu hv hw forward f =
    met b u v w d (det3 u v w) (det3 d v w) (det3 u d w) (det3 u v d) hu hv hw f.volume_above f.e0_above f.e1_above f.e2_above forward
    (cramer_x d u v w) (cramer_y d u v w) (cramer_z d u v w)

flipped : (a b c x y z v k : ℤ) → a *ℤ x +ℤ b *ℤ y +ℤ c *ℤ z ≡ v *ℤ k → neg_ℤ a *ℤ x +ℤ neg_ℤ b *ℤ y +ℤ neg_ℤ c *ℤ z ≡ neg_ℤ v *ℤ k
flipped a b c x y z v k e = omega (arith, order, e, neg-mul a x, neg-mul b y, neg-mul c z, neg-mul v k)

pub back_met : (b : Bounds) (u v w d : Point) → Holds b u → Holds b v → Holds b w → pos 0 <ℤ d.y →
    IsBack (det3 u v w) (edges d u v w) → IsMet b d (neg_ℤ (det3 u v w)) (neg_ℤ (sum_of (edges d u v w)))
unfolding edges
back_met b u v w d hu hv hw forward f =
    let sum : neg_ℤ (det3 d v w) +ℤ neg_ℤ (det3 u d w) +ℤ neg_ℤ (det3 u v d) ≡ neg_ℤ (det3 d v w +ℤ det3 u d w +ℤ det3 u v d) = omega (arith, linear) in
    subst (λ (s : ℤ). IsMet b d (neg_ℤ (det3 u v w)) s) sum
    (met b u v w d (neg_ℤ (det3 u v w)) (neg_ℤ (det3 d v w)) (neg_ℤ (det3 u d w)) (neg_ℤ (det3 u v d)) hu hv hw
    (omega (arith, ints, f.volume_below)) (omega (arith, ints, f.e0_below)) (omega (arith, ints, f.e1_below)) (omega (arith, ints, f.e2_below)) forward
    (flipped (det3 d v w) (det3 u d w) (det3 u v d) u.x v.x w.x (det3 u v w) d.x (cramer_x d u v w))
    (flipped (det3 d v w) (det3 u d w) (det3 u v d) u.y v.y w.y (det3 u v w) d.y (cramer_y d u v w))
    (flipped (det3 d v w) (det3 u d w) (det3 u v d) u.z v.z w.z (det3 u v w) d.z (cramer_z d u v w)))
