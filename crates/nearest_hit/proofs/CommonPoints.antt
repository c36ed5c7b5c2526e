-- Boxes whose ranges overlap have a common point.
use Rattle.std.proofs.Common.{◌≡◌, Bool, true, ◌&&◌, refl, arith}
use Rattle.std.specs.Prelude.{ℤ, ◌≤ℤ◌, int_le, IsTrue}
use Rattle.std.specs.Int.{int_max}
use Rattle.std.proofs.lemmas.Bool.{and_parts}
use Rattle.std.proofs.lemmas.Int.{ints, clamps}
use Rattle.fx_math.specs.Plain.{Point, Bounds, IsBox, point}
use Rattle.nearest_hit.specs.Touch.{overlap, touch, HaveCommonPoint}

pub overlap_true : (a b c d : ℤ) → a ≤ℤ d → c ≤ℤ b → overlap a b c d ≡ true
unfolding overlap
overlap_true a b c d first second = grind (arith, ints)

overlap_parts : (a b c d : ℤ) → IsTrue (overlap a b c d) → (a ≤ℤ d) × (c ≤ℤ b)
unfolding overlap
overlap_parts a b c d h =
    let parts = and_parts (int_le a d) (int_le c b) h in
    (omega (arith, ints, parts.0), omega (arith, ints, parts.1))

pub all_true : (a b c : Bool) → a ≡ true → b ≡ true → c ≡ true → (a && b && c) ≡ true
all_true a b c e f g = rw (e, f, g) refl

abbrev greater_corner : Bounds → Bounds → Point
greater_corner b c = point (int_max b.lo.x c.lo.x) (int_max b.lo.y c.lo.y) (int_max b.lo.z c.lo.z)

pub common_point : (b c : Bounds) → IsBox b → IsBox c → touch b c ≡ true → HaveCommonPoint b c
unfolding touch
common_point b c f g h =
    let outer = and_parts (overlap b.lo.x b.hi.x c.lo.x c.hi.x && overlap b.lo.y b.hi.y c.lo.y c.hi.y) (overlap b.lo.z b.hi.z c.lo.z c.hi.z) h in
    let inner = and_parts (overlap b.lo.x b.hi.x c.lo.x c.hi.x) (overlap b.lo.y b.hi.y c.lo.y c.hi.y) outer.0 in
    let x = overlap_parts b.lo.x b.hi.x c.lo.x c.hi.x inner.0 in
    let y = overlap_parts b.lo.y b.hi.y c.lo.y c.hi.y inner.1 in
    let z = overlap_parts b.lo.z b.hi.z c.lo.z c.hi.z outer.1 in
    record {
      at = greater_corner b c;
      in_first = record {
        x_low = omega (arith, ints, clamps);
        x_high = omega (arith, ints, clamps, x.1, f.x_ordered);
        y_low = omega (arith, ints, clamps);
        y_high = omega (arith, ints, clamps, y.1, f.y_ordered);
        z_low = omega (arith, ints, clamps);
        z_high = omega (arith, ints, clamps, z.1, f.z_ordered);
      };
      in_second = record {
        x_low = omega (arith, ints, clamps);
        x_high = omega (arith, ints, clamps, x.0, g.x_ordered);
        y_low = omega (arith, ints, clamps);
        y_high = omega (arith, ints, clamps, y.0, g.y_ordered);
        z_low = omega (arith, ints, clamps);
        z_high = omega (arith, ints, clamps, z.0, g.z_ordered);
      };
    }

pub common_touch : (b c : Bounds) → HaveCommonPoint b c → touch b c ≡ true
unfolding touch
common_touch b c h =
    all_true (overlap b.lo.x b.hi.x c.lo.x c.hi.x) (overlap b.lo.y b.hi.y c.lo.y c.hi.y) (overlap b.lo.z b.hi.z c.lo.z c.hi.z)
    (overlap_true b.lo.x b.hi.x c.lo.x c.hi.x (omega (arith, ints, h.in_first.x_low, h.in_second.x_high)) (omega (arith, ints, h.in_second.x_low, h.in_first.x_high)))
    (overlap_true b.lo.y b.hi.y c.lo.y c.hi.y (omega (arith, ints, h.in_first.y_low, h.in_second.y_high)) (omega (arith, ints, h.in_second.y_low, h.in_first.y_high)))
    (overlap_true b.lo.z b.hi.z c.lo.z c.hi.z (omega (arith, ints, h.in_first.z_low, h.in_second.z_high)) (omega (arith, ints, h.in_second.z_low, h.in_first.z_high)))
