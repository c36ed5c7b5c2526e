-- Points and boxes under affine steps, in fixed point: each step rounds down and clamps.
use Rattle.std.specs.Prelude.{zero, suc, ◌/◌, List, [], ◌∷◌, map, fold, Option, ℤ, pos, negsuc, neg_ℤ, ◌+ℤ◌, ◌*ℤ◌, Some, None}
use Rattle.std.specs.Int.{int_min, int_max}
use Rattle.fx_math.specs.Limits.{coordinate_limit}
use Rattle.fx_math.specs.Plain.{Point, Matrix, Bounds, point}

-- the greatest whole number that is not above n / d, for a divisor that is not 0
unfoldable pub floor_div : ℤ → ℤ → ℤ
floor_div (pos n) (pos d) = pos (n / d)
floor_div (negsuc n) (pos d) = negsuc (n / d)
floor_div (pos zero) (negsuc d) = pos 0
floor_div (pos (suc n)) (negsuc d) = negsuc (n / suc d)
floor_div (negsuc n) (negsuc d) = pos (suc n / suc d)

-- the coordinate nearest to z
unfoldable pub clamp : ℤ → ℤ
clamp z = int_max (neg_ℤ (pos coordinate_limit)) (int_min z (pos coordinate_limit))

-- A coordinate after a step: the sum of the products, in 1/65536, rounded down, and then the translation, clamped.
unfoldable pub moved : ℤ → ℤ → ℤ
moved sum t = clamp (floor_div sum (pos 65536) +ℤ t)

-- the scalar product
unfoldable pub dot : Point → ℤ → ℤ → ℤ → ℤ
dot p a b c = p.x *ℤ a +ℤ p.y *ℤ b +ℤ p.z *ℤ c

-- a point after a step
unfoldable pub apply : Matrix → Point → Point
apply m p = point
    (moved (dot p m.x.x m.y.x m.z.x) m.t.x)
    (moved (dot p m.x.y m.y.y m.z.y) m.t.y)
    (moved (dot p m.x.z m.y.z m.z.z) m.t.z)

-- the least and the greatest scalar product of (a, b, c) with a point of the box
unfoldable pub least_dot : Bounds → ℤ → ℤ → ℤ → ℤ
least_dot box a b c =
    int_min (box.lo.x *ℤ a) (box.hi.x *ℤ a) +ℤ int_min (box.lo.y *ℤ b) (box.hi.y *ℤ b)
    +ℤ int_min (box.lo.z *ℤ c) (box.hi.z *ℤ c)

unfoldable pub greatest_dot : Bounds → ℤ → ℤ → ℤ → ℤ
greatest_dot box a b c =
    int_max (box.lo.x *ℤ a) (box.hi.x *ℤ a) +ℤ int_max (box.lo.y *ℤ b) (box.hi.y *ℤ b)
    +ℤ int_max (box.lo.z *ℤ c) (box.hi.z *ℤ c)

-- a box around all points of a box after a step
unfoldable pub apply_box : Matrix → Bounds → Bounds
apply_box m b = record {
  lo = point
      (moved (least_dot b m.x.x m.y.x m.z.x) m.t.x)
      (moved (least_dot b m.x.y m.y.y m.z.y) m.t.y)
      (moved (least_dot b m.x.z m.y.z m.z.z) m.t.z);
  hi = point
      (moved (greatest_dot b m.x.x m.y.x m.z.x) m.t.x)
      (moved (greatest_dot b m.x.y m.y.y m.z.y) m.t.y)
      (moved (greatest_dot b m.x.z m.y.z m.z.z) m.t.z);
}

-- a point after a list of steps, one after the other
abbrev pub carry : List Matrix → Point → Point
carry [] p = p
carry (m ∷ ms) p = carry ms (apply m p)

-- a box after a list of steps, one after the other
abbrev pub carry_box : List Matrix → Bounds → Bounds
carry_box [] b = b
carry_box (m ∷ ms) b = carry_box ms (apply_box m b)

-- the least box around two boxes
unfoldable pub hull : Bounds → Bounds → Bounds
hull b c = record {
  lo = point (int_min b.lo.x c.lo.x) (int_min b.lo.y c.lo.y) (int_min b.lo.z c.lo.z);
  hi = point (int_max b.hi.x c.hi.x) (int_max b.hi.y c.hi.y) (int_max b.hi.z c.hi.z);
}

-- the least box around the boxes of a list, where there are any
abbrev pub hull_of_boxes : List Bounds → Option Bounds
hull_of_boxes [] = None
hull_of_boxes (b ∷ bs) = Some (fold hull b bs)

-- the least box around a box and, where there is one, another
abbrev pub hull_with : Option Bounds → Bounds → Bounds
hull_with None b = b
hull_with (Some a) b = hull a b

-- the box of one point
abbrev pub box_at : Point → Bounds
box_at p = record { lo = p; hi = p }

-- the least box around the points of a list, where there are any
abbrev pub hull_of : List Point → Option Bounds
hull_of ps = hull_of_boxes (map box_at ps)
