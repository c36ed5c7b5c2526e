-- Boxes after a turn, by the ends of their extents.
use Rattle.std.proofs.Common.{◌≡◌, ◌∙◌, ap, sym, arith}
use Rattle.std.specs.Prelude.{ℤ, pos, neg_ℤ, ◌+ℤ◌, ◌*ℤ◌, ◌≤ℤ◌}
use Rattle.std.specs.Int.{int_min, int_max}
use Rattle.std.proofs.lemmas.Int.{ints, clamps}
use lib.IntN.{*ℤ_comm, +ℤ_idr, +ℤ_idl}
use Rattle.fx_math.specs.Within.{AreCoordinates}
use Rattle.fx_math.specs.Plain.{Bounds, IsBox, point}
use Rattle.fx_math.specs.Fixed.{moved, least_dot, greatest_dot, apply_box}
use Rattle.fx_math.proofs.Ring.{times_le, neg-mul, order}
use Rattle.draw_list.specs.Steps.{rolled, pitched, turned}
use Rattle.draw_list.proofs.StepLaws.{three}
use Rattle.draw_list.proofs.BoxSteps.{first_of, last_of, least_none, greatest_none, low_x, low_y, low_z, high_x, high_y, high_z, ends}
use Rattle.draw_list.proofs.TurnLaws.{kept}

-- ---- the ends of an extent, in the order of their products
second_of : (x y : ℤ) → y ≤ℤ x → int_min x y ≡ y
second_of x y h = omega (arith, ints, clamps)

former_of : (x y : ℤ) → y ≤ℤ x → int_max x y ≡ x
former_of x y h = omega (arith, ints, clamps)

in_order : (x y a : ℤ) → x ≤ℤ y → pos 0 ≤ℤ a → (x *ℤ a) ≤ℤ (y *ℤ a)
in_order x y a h some = omega (arith, order, times_le a x y some h, *ℤ_comm a x, *ℤ_comm a y)

turned_round : (x y a : ℤ) → x ≤ℤ y → a ≤ℤ pos 0 → (y *ℤ a) ≤ℤ (x *ℤ a)
turned_round x y a h some =
    let flipped : pos 0 ≤ℤ neg_ℤ a = omega (arith, ints) in
    omega (arith, order, times_le (neg_ℤ a) x y flipped h, neg-mul a x, neg-mul a y, *ℤ_comm a x, *ℤ_comm a y)

pub least_in_order : (x y a : ℤ) → x ≤ℤ y → pos 0 ≤ℤ a → x *ℤ a ≡ int_min (x *ℤ a) (y *ℤ a)
least_in_order x y a h some = sym (first_of (x *ℤ a) (y *ℤ a) (in_order x y a h some))

pub greatest_in_order : (x y a : ℤ) → x ≤ℤ y → pos 0 ≤ℤ a → y *ℤ a ≡ int_max (x *ℤ a) (y *ℤ a)
greatest_in_order x y a h some = sym (last_of (x *ℤ a) (y *ℤ a) (in_order x y a h some))

pub least_turned_round : (x y a : ℤ) → x ≤ℤ y → a ≤ℤ pos 0 → y *ℤ a ≡ int_min (x *ℤ a) (y *ℤ a)
least_turned_round x y a h some = sym (second_of (x *ℤ a) (y *ℤ a) (turned_round x y a h some))

pub greatest_turned_round : (x y a : ℤ) → x ≤ℤ y → a ≤ℤ pos 0 → x *ℤ a ≡ int_max (x *ℤ a) (y *ℤ a)
greatest_turned_round x y a h some = sym (former_of (x *ℤ a) (y *ℤ a) (turned_round x y a h some))

-- ---- scalar products with a 0 over a box
without_first : (q a b : ℤ) → q ≡ pos 0 → q +ℤ a +ℤ b ≡ a +ℤ b
without_first q a b e = ap (λ (z : ℤ). z +ℤ a +ℤ b) e ∙ ap (λ (z : ℤ). z +ℤ b) (+ℤ_idl a)

without_second : (a q b : ℤ) → q ≡ pos 0 → a +ℤ q +ℤ b ≡ a +ℤ b
without_second a q b e = ap (λ (z : ℤ). a +ℤ z +ℤ b) e ∙ ap (λ (z : ℤ). z +ℤ b) (+ℤ_idr a)

without_third : (a b q : ℤ) → q ≡ pos 0 → a +ℤ b +ℤ q ≡ a +ℤ b
without_third a b q e = ap (λ (z : ℤ). a +ℤ b +ℤ z) e ∙ +ℤ_idr (a +ℤ b)

low_without_x : (b : Bounds) (i j : ℤ) → least_dot b (pos 0) i j ≡ int_min (b.lo.y *ℤ i) (b.hi.y *ℤ i) +ℤ int_min (b.lo.z *ℤ j) (b.hi.z *ℤ j)
unfolding least_dot
low_without_x b i j = without_first _ _ _ (least_none b.lo.x b.hi.x)

low_without_y : (b : Bounds) (i j : ℤ) → least_dot b i (pos 0) j ≡ int_min (b.lo.x *ℤ i) (b.hi.x *ℤ i) +ℤ int_min (b.lo.z *ℤ j) (b.hi.z *ℤ j)
unfolding least_dot
low_without_y b i j = without_second _ _ _ (least_none b.lo.y b.hi.y)

low_without_z : (b : Bounds) (i j : ℤ) → least_dot b i j (pos 0) ≡ int_min (b.lo.x *ℤ i) (b.hi.x *ℤ i) +ℤ int_min (b.lo.y *ℤ j) (b.hi.y *ℤ j)
unfolding least_dot
low_without_z b i j = without_third (int_min (b.lo.x *ℤ i) (b.hi.x *ℤ i)) (int_min (b.lo.y *ℤ j) (b.hi.y *ℤ j)) _ (least_none b.lo.z b.hi.z)

high_without_x : (b : Bounds) (i j : ℤ) → greatest_dot b (pos 0) i j ≡ int_max (b.lo.y *ℤ i) (b.hi.y *ℤ i) +ℤ int_max (b.lo.z *ℤ j) (b.hi.z *ℤ j)
unfolding greatest_dot
high_without_x b i j = without_first _ _ _ (greatest_none b.lo.x b.hi.x)

high_without_y : (b : Bounds) (i j : ℤ) → greatest_dot b i (pos 0) j ≡ int_max (b.lo.x *ℤ i) (b.hi.x *ℤ i) +ℤ int_max (b.lo.z *ℤ j) (b.hi.z *ℤ j)
unfolding greatest_dot
high_without_y b i j = without_second _ _ _ (greatest_none b.lo.y b.hi.y)

high_without_z : (b : Bounds) (i j : ℤ) → greatest_dot b i j (pos 0) ≡ int_max (b.lo.x *ℤ i) (b.hi.x *ℤ i) +ℤ int_max (b.lo.y *ℤ j) (b.hi.y *ℤ j)
unfolding greatest_dot
high_without_z b i j = without_third (int_max (b.lo.x *ℤ i) (b.hi.x *ℤ i)) (int_max (b.lo.y *ℤ j) (b.hi.y *ℤ j)) _ (greatest_none b.lo.z b.hi.z)

abbrev at : ℤ → ℤ
at sum = moved sum (pos 0)

-- ---- boxes, by the coordinates of their ends, each of which is told on its own
pub turned_box_by : (s c : ℤ) (b : Bounds) (x y z u v w : ℤ) → IsBox b → AreCoordinates b.lo.x b.lo.y b.lo.z → AreCoordinates b.hi.x b.hi.y b.hi.z →
    x ≡ moved (int_min (b.lo.x *ℤ c) (b.hi.x *ℤ c) +ℤ int_min (b.lo.y *ℤ (neg_ℤ s)) (b.hi.y *ℤ (neg_ℤ s))) (pos 0) →
    y ≡ moved (int_min (b.lo.x *ℤ s) (b.hi.x *ℤ s) +ℤ int_min (b.lo.y *ℤ c) (b.hi.y *ℤ c)) (pos 0) →
    z ≡ b.lo.z →
    u ≡ moved (int_max (b.lo.x *ℤ c) (b.hi.x *ℤ c) +ℤ int_max (b.lo.y *ℤ (neg_ℤ s)) (b.hi.y *ℤ (neg_ℤ s))) (pos 0) →
    v ≡ moved (int_max (b.lo.x *ℤ s) (b.hi.x *ℤ s) +ℤ int_max (b.lo.y *ℤ c) (b.hi.y *ℤ c)) (pos 0) →
    w ≡ b.hi.z →
    record { lo = point x y z; hi = point u v w } ≡ apply_box (turned s c) b
unfolding apply_box
turned_box_by s c b x y z u v w box lo hi e f g h i j =
    ends _ _ _ _
    (three _ _ _ _ _ _
    (e ∙ sym (ap at (low_without_z b c (neg_ℤ s))))
    (f ∙ sym (ap at (low_without_z b s c)))
    (g ∙ sym (ap at (low_z b box) ∙ kept b.lo.z lo.z_within)))
    (three _ _ _ _ _ _
    (h ∙ sym (ap at (high_without_z b c (neg_ℤ s))))
    (i ∙ sym (ap at (high_without_z b s c)))
    (j ∙ sym (ap at (high_z b box) ∙ kept b.hi.z hi.z_within)))

pub pitched_box_by : (s c : ℤ) (b : Bounds) (x y z u v w : ℤ) → IsBox b → AreCoordinates b.lo.x b.lo.y b.lo.z → AreCoordinates b.hi.x b.hi.y b.hi.z →
    x ≡ b.lo.x →
    y ≡ moved (int_min (b.lo.y *ℤ c) (b.hi.y *ℤ c) +ℤ int_min (b.lo.z *ℤ (neg_ℤ s)) (b.hi.z *ℤ (neg_ℤ s))) (pos 0) →
    z ≡ moved (int_min (b.lo.y *ℤ s) (b.hi.y *ℤ s) +ℤ int_min (b.lo.z *ℤ c) (b.hi.z *ℤ c)) (pos 0) →
    u ≡ b.hi.x →
    v ≡ moved (int_max (b.lo.y *ℤ c) (b.hi.y *ℤ c) +ℤ int_max (b.lo.z *ℤ (neg_ℤ s)) (b.hi.z *ℤ (neg_ℤ s))) (pos 0) →
    w ≡ moved (int_max (b.lo.y *ℤ s) (b.hi.y *ℤ s) +ℤ int_max (b.lo.z *ℤ c) (b.hi.z *ℤ c)) (pos 0) →
    record { lo = point x y z; hi = point u v w } ≡ apply_box (pitched s c) b
unfolding apply_box
pitched_box_by s c b x y z u v w box lo hi e f g h i j =
    ends _ _ _ _
    (three _ _ _ _ _ _
    (e ∙ sym (ap at (low_x b box) ∙ kept b.lo.x lo.x_within))
    (f ∙ sym (ap at (low_without_x b c (neg_ℤ s))))
    (g ∙ sym (ap at (low_without_x b s c))))
    (three _ _ _ _ _ _
    (h ∙ sym (ap at (high_x b box) ∙ kept b.hi.x hi.x_within))
    (i ∙ sym (ap at (high_without_x b c (neg_ℤ s))))
    (j ∙ sym (ap at (high_without_x b s c))))

pub rolled_box_by : (s c : ℤ) (b : Bounds) (x y z u v w : ℤ) → IsBox b → AreCoordinates b.lo.x b.lo.y b.lo.z → AreCoordinates b.hi.x b.hi.y b.hi.z →
    x ≡ moved (int_min (b.lo.x *ℤ c) (b.hi.x *ℤ c) +ℤ int_min (b.lo.z *ℤ s) (b.hi.z *ℤ s)) (pos 0) →
    y ≡ b.lo.y →
    z ≡ moved (int_min (b.lo.x *ℤ (neg_ℤ s)) (b.hi.x *ℤ (neg_ℤ s)) +ℤ int_min (b.lo.z *ℤ c) (b.hi.z *ℤ c)) (pos 0) →
    u ≡ moved (int_max (b.lo.x *ℤ c) (b.hi.x *ℤ c) +ℤ int_max (b.lo.z *ℤ s) (b.hi.z *ℤ s)) (pos 0) →
    v ≡ b.hi.y →
    w ≡ moved (int_max (b.lo.x *ℤ (neg_ℤ s)) (b.hi.x *ℤ (neg_ℤ s)) +ℤ int_max (b.lo.z *ℤ c) (b.hi.z *ℤ c)) (pos 0) →
    record { lo = point x y z; hi = point u v w } ≡ apply_box (rolled s c) b
unfolding apply_box
rolled_box_by s c b x y z u v w box lo hi e f g h i j =
    ends _ _ _ _
    (three _ _ _ _ _ _
    (e ∙ sym (ap at (low_without_y b c s)))
    (f ∙ sym (ap at (low_y b box) ∙ kept b.lo.y lo.y_within))
    (g ∙ sym (ap at (low_without_y b (neg_ℤ s) c))))
    (three _ _ _ _ _ _
    (h ∙ sym (ap at (high_without_y b c s)))
    (i ∙ sym (ap at (high_y b box) ∙ kept b.hi.y hi.y_within))
    (j ∙ sym (ap at (high_without_y b (neg_ℤ s) c))))
