-- Boxes under steps: a point of a box stays in it, and a part stays inside, also along a list of steps.
use Rattle.std.proofs.Common.{◌≡◌, List, [], ◌∷◌, ◌++◌, refl, arith}
use Rattle.std.specs.Prelude.{ℤ, pos, neg_ℤ, ◌+ℤ◌, ◌*ℤ◌, ◌≤ℤ◌}
use Rattle.std.specs.Int.{int_min, int_max}
use Rattle.std.proofs.lemmas.Int.{ints, clamps, int_min_is, int_max_is, by_lt_z}
use lib.IntN.{*ℤ_comm}
use Rattle.fx_math.specs.Within.{IsCoordinate, AreCoordinates}
use Rattle.fx_math.specs.Plain.{Point, Matrix, Bounds, IsBox, Holds, IsInside}
use Rattle.fx_math.specs.Fixed.{floor_div, clamp, moved, dot, apply, least_dot, greatest_dot, apply_box, carry, carry_box, hull}
use Rattle.fx_math.proofs.Floor.{floor_mono}
use Rattle.fx_math.proofs.Ring.{times_le, neg-mul, order}

-- ---- a coordinate
pub clamp_mono : (a b : ℤ) → a ≤ℤ b → clamp a ≤ℤ clamp b
unfolding clamp
clamp_mono a b h = omega (arith, ints, clamps)

pub clamp_within : (a : ℤ) → IsCoordinate (clamp a)
unfolding clamp
clamp_within a = record { size = omega (arith, ints, clamps) }

-- a coordinate is clamped to itself
pub clamp_same : (a : ℤ) → IsCoordinate a → clamp a ≡ a
unfolding clamp
clamp_same a h = omega (arith, ints, clamps)

pub moved_mono : (a b t : ℤ) → a ≤ℤ b → moved a t ≤ℤ moved b t
unfolding moved
moved_mono a b t h =
    let less : floor_div a (pos 65536) ≤ℤ floor_div b (pos 65536) = floor_mono a b (pos 65536) (omega (arith, ints)) h in
    clamp_mono (floor_div a (pos 65536) +ℤ t) (floor_div b (pos 65536) +ℤ t) (omega (arith, ints))

pub moved_within : (a t : ℤ) → IsCoordinate (moved a t)
unfolding moved
moved_within a t = clamp_within (floor_div a (pos 65536) +ℤ t)

-- ---- products and sums over a box
-- a factor keeps an order, or turns it round
times_order : (x y a : ℤ) → x ≤ℤ y → pos 0 ≤ℤ a → (x *ℤ a) ≤ℤ (y *ℤ a)
times_order x y a h some = omega (arith, order, times_le a x y some h, *ℤ_comm a x, *ℤ_comm a y)

times_turn : (x y a : ℤ) → x ≤ℤ y → a ≤ℤ pos 0 → (y *ℤ a) ≤ℤ (x *ℤ a)
times_turn x y a h some =
    let flipped : pos 0 ≤ℤ neg_ℤ a = omega (arith, ints) in
    omega (arith, order, times_le (neg_ℤ a) x y flipped h, neg-mul a x, neg-mul a y, *ℤ_comm a x, *ℤ_comm a y)

-- a product with a number between two others lies between the least and the greatest of their products
product_low : (x y z a : ℤ) → x ≤ℤ z → z ≤ℤ y → int_min (x *ℤ a) (y *ℤ a) ≤ℤ (z *ℤ a)
product_low x y z a low high = by_lt_z a (pos 0)
    (λ negative. let turned : a ≤ℤ pos 0 = omega (arith, ints) in omega (arith, order, clamps, times_turn z y a high turned))
    (λ some. omega (arith, order, clamps, times_order x z a low some))

product_high : (x y z a : ℤ) → x ≤ℤ z → z ≤ℤ y → (z *ℤ a) ≤ℤ int_max (x *ℤ a) (y *ℤ a)
product_high x y z a low high = by_lt_z a (pos 0)
    (λ negative. let turned : a ≤ℤ pos 0 = omega (arith, ints) in omega (arith, order, clamps, times_turn x z a low turned))
    (λ some. omega (arith, order, clamps, times_order z y a high some))

pub dot_low : (b : Bounds) (p : Point) (i j k : ℤ) → Holds b p → least_dot b i j k ≤ℤ dot p i j k
unfolding least_dot dot
dot_low b p i j k h =
    omega (
      arith,
      order,
      product_low b.lo.x b.hi.x p.x i h.x_low h.x_high,
      product_low b.lo.y b.hi.y p.y j h.y_low h.y_high,
      product_low b.lo.z b.hi.z p.z k h.z_low h.z_high,
    )

pub dot_high : (b : Bounds) (p : Point) (i j k : ℤ) → Holds b p → dot p i j k ≤ℤ greatest_dot b i j k
unfolding greatest_dot dot
dot_high b p i j k h =
    omega (
      arith,
      order,
      product_high b.lo.x b.hi.x p.x i h.x_low h.x_high,
      product_high b.lo.y b.hi.y p.y j h.y_low h.y_high,
      product_high b.lo.z b.hi.z p.z k h.z_low h.z_high,
    )

-- the ends of a part lie between those of the whole
part_low : (x y u v a : ℤ) → x ≤ℤ u → u ≤ℤ v → v ≤ℤ y → int_min (x *ℤ a) (y *ℤ a) ≤ℤ int_min (u *ℤ a) (v *ℤ a)
part_low x y u v a low mid high =
    let below : u ≤ℤ y = omega (arith, ints) in
    let above : x ≤ℤ v = omega (arith, ints) in
    omega (arith, order, int_min_is (u *ℤ a) (v *ℤ a), product_low x y u a low below, product_low x y v a above high)

part_high : (x y u v a : ℤ) → x ≤ℤ u → u ≤ℤ v → v ≤ℤ y → int_max (u *ℤ a) (v *ℤ a) ≤ℤ int_max (x *ℤ a) (y *ℤ a)
part_high x y u v a low mid high =
    let below : u ≤ℤ y = omega (arith, ints) in
    let above : x ≤ℤ v = omega (arith, ints) in
    omega (arith, order, int_max_is (u *ℤ a) (v *ℤ a), product_high x y u a low below, product_high x y v a above high)

pub part_dot_low : (part whole : Bounds) (i j k : ℤ) → IsBox part → IsInside part whole → least_dot whole i j k ≤ℤ least_dot part i j k
unfolding least_dot
part_dot_low part whole i j k box h =
    omega (
      arith,
      order,
      part_low whole.lo.x whole.hi.x part.lo.x part.hi.x i h.x_low box.x_ordered h.x_high,
      part_low whole.lo.y whole.hi.y part.lo.y part.hi.y j h.y_low box.y_ordered h.y_high,
      part_low whole.lo.z whole.hi.z part.lo.z part.hi.z k h.z_low box.z_ordered h.z_high,
    )

pub part_dot_high : (part whole : Bounds) (i j k : ℤ) → IsBox part → IsInside part whole → greatest_dot part i j k ≤ℤ greatest_dot whole i j k
unfolding greatest_dot
part_dot_high part whole i j k box h =
    omega (
      arith,
      order,
      part_high whole.lo.x whole.hi.x part.lo.x part.hi.x i h.x_low box.x_ordered h.x_high,
      part_high whole.lo.y whole.hi.y part.lo.y part.hi.y j h.y_low box.y_ordered h.y_high,
      part_high whole.lo.z whole.hi.z part.lo.z part.hi.z k h.z_low box.z_ordered h.z_high,
    )

pub least-greatest : (b : Bounds) (i j k : ℤ) → least_dot b i j k ≤ℤ greatest_dot b i j k
unfolding least_dot greatest_dot
least-greatest b i j k = omega (arith, order, clamps)

-- ---- a step
pub apply_within : (m : Matrix) (p : Point) → AreCoordinates (apply m p).x (apply m p).y (apply m p).z
unfolding apply
apply_within m p = record { x_within = moved_within _ _; y_within = moved_within _ _; z_within = moved_within _ _ }

-- a point of a box is moved into the box that `apply_box` gives
pub apply-holds : (m : Matrix) (b : Bounds) (p : Point) → Holds b p → Holds (apply_box m b) (apply m p)
unfolding apply apply_box
apply-holds m b p h = record {
  x_low = moved_mono _ _ _ (dot_low b p _ _ _ h);
  x_high = moved_mono _ _ _ (dot_high b p _ _ _ h);
  y_low = moved_mono _ _ _ (dot_low b p _ _ _ h);
  y_high = moved_mono _ _ _ (dot_high b p _ _ _ h);
  z_low = moved_mono _ _ _ (dot_low b p _ _ _ h);
  z_high = moved_mono _ _ _ (dot_high b p _ _ _ h);
}

pub apply_box-IsBox : (m : Matrix) (b : Bounds) → IsBox (apply_box m b)
unfolding apply_box
apply_box-IsBox m b = record {
  x_ordered = moved_mono _ _ _ (least-greatest b _ _ _);
  y_ordered = moved_mono _ _ _ (least-greatest b _ _ _);
  z_ordered = moved_mono _ _ _ (least-greatest b _ _ _);
}

-- a part of a box is moved into the box that `apply_box` gives
pub apply_box-inside : (m : Matrix) (part whole : Bounds) → IsBox part → IsInside part whole → IsInside (apply_box m part) (apply_box m whole)
unfolding apply_box
apply_box-inside m part whole box h = record {
  x_low = moved_mono _ _ _ (part_dot_low part whole _ _ _ box h);
  x_high = moved_mono _ _ _ (part_dot_high part whole _ _ _ box h);
  y_low = moved_mono _ _ _ (part_dot_low part whole _ _ _ box h);
  y_high = moved_mono _ _ _ (part_dot_high part whole _ _ _ box h);
  z_low = moved_mono _ _ _ (part_dot_low part whole _ _ _ box h);
  z_high = moved_mono _ _ _ (part_dot_high part whole _ _ _ box h);
}

-- ---- a list of steps
pub carry-holds : (ms : List Matrix) (b : Bounds) (p : Point) → Holds b p → Holds (carry_box ms b) (carry ms p)
carry-holds [] b p h = h
carry-holds (m ∷ ms) b p h = carry-holds ms (apply_box m b) (apply m p) (apply-holds m b p h)

pub carry_box-IsBox : (ms : List Matrix) (b : Bounds) → IsBox b → IsBox (carry_box ms b)
carry_box-IsBox [] b box = box
carry_box-IsBox (m ∷ ms) b box = carry_box-IsBox ms (apply_box m b) (apply_box-IsBox m b)

pub carry_box-inside : (ms : List Matrix) (part whole : Bounds) → IsBox part → IsInside part whole → IsInside (carry_box ms part) (carry_box ms whole)
carry_box-inside [] part whole box h = h
carry_box-inside (m ∷ ms) part whole box h =
    carry_box-inside ms (apply_box m part) (apply_box m whole) (apply_box-IsBox m part) (apply_box-inside m part whole box h)

pub carry-append : (ms ns : List Matrix) (p : Point) → carry (ms ++ ns) p ≡ carry ns (carry ms p)
carry-append [] ns p = refl
carry-append (m ∷ ms) ns p = carry-append ms ns (apply m p)

pub carry_box-append : (ms ns : List Matrix) (b : Bounds) → carry_box (ms ++ ns) b ≡ carry_box ns (carry_box ms b)
carry_box-append [] ns b = refl
carry_box-append (m ∷ ms) ns b = carry_box-append ms ns (apply_box m b)

-- ---- hulls
pub hull-IsBox : (a b : Bounds) → IsBox a → IsBox b → IsBox (hull a b)
unfolding hull
hull-IsBox a b f g = record { x_ordered = omega (arith, ints, clamps); y_ordered = omega (arith, ints, clamps); z_ordered = omega (arith, ints, clamps) }

-- a hull contains both boxes
pub hull-first : (a b : Bounds) → IsInside a (hull a b)
unfolding hull
hull-first a b = record {
  x_low = omega (arith, ints, clamps);
  x_high = omega (arith, ints, clamps);
  y_low = omega (arith, ints, clamps);
  y_high = omega (arith, ints, clamps);
  z_low = omega (arith, ints, clamps);
  z_high = omega (arith, ints, clamps);
}

pub hull-second : (a b : Bounds) → IsInside b (hull a b)
unfolding hull
hull-second a b = record {
  x_low = omega (arith, ints, clamps);
  x_high = omega (arith, ints, clamps);
  y_low = omega (arith, ints, clamps);
  y_high = omega (arith, ints, clamps);
  z_low = omega (arith, ints, clamps);
  z_high = omega (arith, ints, clamps);
}

-- and lies in each box that contains both
pub hull-least : (a b c : Bounds) → IsInside a c → IsInside b c → IsInside (hull a b) c
unfolding hull
hull-least a b c f g = record {
  x_low = omega (arith, ints, clamps);
  x_high = omega (arith, ints, clamps);
  y_low = omega (arith, ints, clamps);
  y_high = omega (arith, ints, clamps);
  z_low = omega (arith, ints, clamps);
  z_high = omega (arith, ints, clamps);
}

pub inside_same : (a : Bounds) → IsInside a a
inside_same a = record {
  x_low = omega (arith, ints);
  x_high = omega (arith, ints);
  y_low = omega (arith, ints);
  y_high = omega (arith, ints);
  z_low = omega (arith, ints);
  z_high = omega (arith, ints);
}

pub inside_trans : (a b c : Bounds) → IsInside a b → IsInside b c → IsInside a c
inside_trans a b c f g = record {
  x_low = omega (arith, ints);
  x_high = omega (arith, ints);
  y_low = omega (arith, ints);
  y_high = omega (arith, ints);
  z_low = omega (arith, ints);
  z_high = omega (arith, ints);
}

-- what a part holds the whole holds
pub inside_holds : (a b : Bounds) (p : Point) → IsInside a b → Holds a p → Holds b p
inside_holds a b p f g = record {
  x_low = omega (arith, ints);
  x_high = omega (arith, ints);
  y_low = omega (arith, ints);
  y_high = omega (arith, ints);
  z_low = omega (arith, ints);
  z_high = omega (arith, ints);
}
