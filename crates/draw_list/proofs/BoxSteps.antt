-- Boxes after steps that shift, or leave all as it is: their ends are moved as points are.
use Rattle.std.proofs.Common.{◌≡◌, ◌∙◌, ap, sym, arith}
use Rattle.std.specs.Prelude.{ℤ, pos, ◌+ℤ◌, ◌*ℤ◌, ◌≤ℤ◌}
use Rattle.std.specs.Int.{int_min, int_max}
use Rattle.std.proofs.lemmas.Int.{ints, clamps}
use lib.IntN.{*ℤ_comm, *ℤ-zero, +ℤ_idr, +ℤ_idl}
use Rattle.fx_math.specs.Within.{IsCoordinate, AreCoordinates}
use Rattle.fx_math.specs.Plain.{Point, Bounds, IsBox, point}
use Rattle.fx_math.specs.Fixed.{clamp, moved, least_dot, greatest_dot, apply_box}
use Rattle.fx_math.specs.Steps.{identity, origin, shift}
use Rattle.fx_math.proofs.Containment.{clamp_same}
use Rattle.fx_math.proofs.Ring.{times_le, order}
use Rattle.fx_math.proofs.Same.{point_same}
use Rattle.fx_math.proofs.Still.{shift_zero}
use Rattle.draw_list.proofs.StepLaws.{moved_whole, three}

-- ---- the least and the greatest product
pub first_of : (x y : ℤ) → x ≤ℤ y → int_min x y ≡ x
first_of x y h = omega (arith, ints, clamps)

pub last_of : (x y : ℤ) → x ≤ℤ y → int_max x y ≡ y
last_of x y h = omega (arith, ints, clamps)

wider : (x y : ℤ) → x ≤ℤ y → (x *ℤ pos 65536) ≤ℤ (y *ℤ pos 65536)
wider x y h =
    let some : pos 0 ≤ℤ pos 65536 = omega (arith, ints) in
    omega (arith, order, times_le (pos 65536) x y some h, *ℤ_comm (pos 65536) x, *ℤ_comm (pos 65536) y)

least_unit : (x y : ℤ) → x ≤ℤ y → int_min (x *ℤ pos 65536) (y *ℤ pos 65536) ≡ pos 65536 *ℤ x
least_unit x y h = first_of (x *ℤ pos 65536) (y *ℤ pos 65536) (wider x y h) ∙ *ℤ_comm x (pos 65536)

greatest_unit : (x y : ℤ) → x ≤ℤ y → int_max (x *ℤ pos 65536) (y *ℤ pos 65536) ≡ pos 65536 *ℤ y
greatest_unit x y h = last_of (x *ℤ pos 65536) (y *ℤ pos 65536) (wider x y h) ∙ *ℤ_comm y (pos 65536)

pub least_none : (x y : ℤ) → int_min (x *ℤ pos 0) (y *ℤ pos 0) ≡ pos 0
least_none x y = ap (λ (a : ℤ). int_min a (y *ℤ pos 0)) (*ℤ-zero x) ∙ ap (λ (a : ℤ). int_min (pos 0) a) (*ℤ-zero y)

pub greatest_none : (x y : ℤ) → int_max (x *ℤ pos 0) (y *ℤ pos 0) ≡ pos 0
greatest_none x y = ap (λ (a : ℤ). int_max a (y *ℤ pos 0)) (*ℤ-zero x) ∙ ap (λ (a : ℤ). int_max (pos 0) a) (*ℤ-zero y)

-- ---- sums of which one number alone is not 0
first_alone : (a b c k : ℤ) → a ≡ k → b ≡ pos 0 → c ≡ pos 0 → a +ℤ b +ℤ c ≡ k
first_alone a b c k e f g =
    ap (λ (q : ℤ). q +ℤ b +ℤ c) e ∙ ap (λ (q : ℤ). k +ℤ q +ℤ c) f ∙ ap (λ (q : ℤ). k +ℤ pos 0 +ℤ q) g
    ∙ +ℤ_idr (k +ℤ pos 0) ∙ +ℤ_idr k

second_alone : (a b c k : ℤ) → a ≡ pos 0 → b ≡ k → c ≡ pos 0 → a +ℤ b +ℤ c ≡ k
second_alone a b c k e f g =
    ap (λ (q : ℤ). q +ℤ b +ℤ c) e ∙ ap (λ (q : ℤ). pos 0 +ℤ q +ℤ c) f ∙ ap (λ (q : ℤ). pos 0 +ℤ k +ℤ q) g
    ∙ +ℤ_idr (pos 0 +ℤ k) ∙ +ℤ_idl k

third_alone : (a b c k : ℤ) → a ≡ pos 0 → b ≡ pos 0 → c ≡ k → a +ℤ b +ℤ c ≡ k
third_alone a b c k e f g =
    ap (λ (q : ℤ). q +ℤ b +ℤ c) e ∙ ap (λ (q : ℤ). pos 0 +ℤ q +ℤ c) f ∙ ap (λ (q : ℤ). pos 0 +ℤ pos 0 +ℤ q) g
    ∙ +ℤ_idl k

-- ---- the ends of a box along the axes
module _ (b : Bounds) (box : IsBox b) where
  pub low_x : least_dot b (pos 65536) (pos 0) (pos 0) ≡ pos 65536 *ℤ b.lo.x
  unfolding least_dot
  low_x = first_alone _ _ _ _ (least_unit b.lo.x b.hi.x box.x_ordered) (least_none b.lo.y b.hi.y) (least_none b.lo.z b.hi.z)

  pub low_y : least_dot b (pos 0) (pos 65536) (pos 0) ≡ pos 65536 *ℤ b.lo.y
  unfolding least_dot
  low_y = second_alone _ _ _ _ (least_none b.lo.x b.hi.x) (least_unit b.lo.y b.hi.y box.y_ordered) (least_none b.lo.z b.hi.z)

  pub low_z : least_dot b (pos 0) (pos 0) (pos 65536) ≡ pos 65536 *ℤ b.lo.z
  unfolding least_dot
  low_z = third_alone _ _ _ _ (least_none b.lo.x b.hi.x) (least_none b.lo.y b.hi.y) (least_unit b.lo.z b.hi.z box.z_ordered)

  pub high_x : greatest_dot b (pos 65536) (pos 0) (pos 0) ≡ pos 65536 *ℤ b.hi.x
  unfolding greatest_dot
  high_x = first_alone _ _ _ _ (greatest_unit b.lo.x b.hi.x box.x_ordered) (greatest_none b.lo.y b.hi.y) (greatest_none b.lo.z b.hi.z)

  pub high_y : greatest_dot b (pos 0) (pos 65536) (pos 0) ≡ pos 65536 *ℤ b.hi.y
  unfolding greatest_dot
  high_y = second_alone _ _ _ _ (greatest_none b.lo.x b.hi.x) (greatest_unit b.lo.y b.hi.y box.y_ordered) (greatest_none b.lo.z b.hi.z)

  pub high_z : greatest_dot b (pos 0) (pos 0) (pos 65536) ≡ pos 65536 *ℤ b.hi.z
  unfolding greatest_dot
  high_z = third_alone _ _ _ _ (greatest_none b.lo.x b.hi.x) (greatest_none b.lo.y b.hi.y) (greatest_unit b.lo.z b.hi.z box.z_ordered)

-- ---- boxes after a step
abbrev bounds : Point → Point → Bounds
bounds lo hi = record { lo = lo; hi = hi }

pub ends : (p q u v : Point) → p ≡ u → q ≡ v → bounds p q ≡ bounds u v
ends p q u v e f = ap (λ (a : Point). bounds a q) e ∙ ap (bounds u) f

-- a box of which each end is shifted
abbrev pub shifted_bounds : Bounds → Point → Bounds
shifted_bounds b t = bounds
    (point (clamp (b.lo.x +ℤ t.x)) (clamp (b.lo.y +ℤ t.y)) (clamp (b.lo.z +ℤ t.z)))
    (point (clamp (b.hi.x +ℤ t.x)) (clamp (b.hi.y +ℤ t.y)) (clamp (b.hi.z +ℤ t.z)))

pub apply_box-shift : (b : Bounds) (t : Point) → IsBox b → shifted_bounds b t ≡ apply_box (shift t) b
unfolding apply_box shift
apply_box-shift b t box = sym
    (ends _ _ _ _
    (three _ _ _ _ _ _
    (ap (λ (a : ℤ). moved a t.x) (low_x b box) ∙ moved_whole b.lo.x t.x)
    (ap (λ (a : ℤ). moved a t.y) (low_y b box) ∙ moved_whole b.lo.y t.y)
    (ap (λ (a : ℤ). moved a t.z) (low_z b box) ∙ moved_whole b.lo.z t.z))
    (three _ _ _ _ _ _
    (ap (λ (a : ℤ). moved a t.x) (high_x b box) ∙ moved_whole b.hi.x t.x)
    (ap (λ (a : ℤ). moved a t.y) (high_y b box) ∙ moved_whole b.hi.y t.y)
    (ap (λ (a : ℤ). moved a t.z) (high_z b box) ∙ moved_whole b.hi.z t.z)))

clamped_same : (z : ℤ) → IsCoordinate z → clamp (z +ℤ pos 0) ≡ z
clamped_same z h = ap clamp (+ℤ_idr z) ∙ clamp_same z h

-- a step that is the identity leaves each box as it is
pub apply_box-identity : (b : Bounds) → IsBox b → AreCoordinates b.lo.x b.lo.y b.lo.z → AreCoordinates b.hi.x b.hi.y b.hi.z → apply_box identity b ≡ b
apply_box-identity b box lo hi =
    sym (ap (λ m. apply_box m b) shift_zero) ∙ sym (apply_box-shift b origin box)
    ∙ ends _ _ _ _
    (point_same b.lo _ _ _ (clamped_same b.lo.x lo.x_within) (clamped_same b.lo.y lo.y_within) (clamped_same b.lo.z lo.z_within))
    (point_same b.hi _ _ _ (clamped_same b.hi.x hi.x_within) (clamped_same b.hi.y hi.y_within) (clamped_same b.hi.z hi.z_within))
