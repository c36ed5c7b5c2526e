-- Where the ray of a pixel meets a triangle. The eye is at 0 and looks along +Y.
use Rattle.std.specs.Prelude.{ℕ, ◌+◌, ◌*◌, Bool, ◌&&◌, ◌||◌, ℤ, pos, ◌+ℤ◌, ◌-ℤ◌, ◌*ℤ◌, int_lt, int_le}
use Rattle.fx_math.specs.Plain.{Point, point}
use Rattle.fx_math.specs.Fixed.{floor_div}
use Rattle.fx_math.specs.declared.lenses.Lens.{Lens}

-- the determinant of three rows
unfoldable pub det3 : Point → Point → Point → ℤ
det3 a b c =
    a.x *ℤ (b.y *ℤ c.z -ℤ b.z *ℤ c.y) +ℤ a.y *ℤ (b.z *ℤ c.x -ℤ b.x *ℤ c.z) +ℤ a.z *ℤ (b.x *ℤ c.y -ℤ b.y *ℤ c.x)

-- the direction of the ray through the middle of the pixel (px, py), which is counted from the top left
unfoldable pub ray : Lens → ℕ → ℕ → Point
ray lens px py = point (pos (2 * px + 1) -ℤ pos lens.w) (pos (2 * lens.f)) (pos lens.h -ℤ pos (2 * py + 1))

-- The edge values of a direction in a triangle: how much of each vertex is in the point that the direction meets, by
-- Cramer's rule, each in units of the determinant of the vertices.
pub record Edges : Type 0 where
  pub e0 : ℤ
  pub e1 : ℤ
  pub e2 : ℤ

unfoldable pub edges : Point → Point → Point → Point → Edges
edges d v0 v1 v2 = record { e0 = det3 d v1 v2; e1 = det3 v0 d v2; e2 = det3 v0 v1 d }

abbrev pub sum_of : Edges → ℤ
sum_of e = e.e0 +ℤ e.e1 +ℤ e.e2

-- the determinant of the vertices is not 0, and no edge value has the opposite sign
unfoldable pub is_inside : ℤ → Edges → Bool
is_inside volume e =
    (int_lt (pos 0) volume && (int_le (pos 0) e.e0 && int_le (pos 0) e.e1 && int_le (pos 0) e.e2)) ||
    (int_lt volume (pos 0) && (int_le e.e0 (pos 0) && int_le e.e1 (pos 0) && int_le e.e2 (pos 0)))

-- the depth at which the ray meets the triangle's plane, rounded down
unfoldable pub depth_of : Lens → ℤ → Edges → ℤ
depth_of lens volume e = floor_div (pos (2 * lens.f) *ℤ volume) (sum_of e)

-- the depth is between the lens's depths
unfoldable pub is_in_depth : Lens → ℤ → Bool
is_in_depth lens depth = int_le lens.near depth && int_le depth lens.far

-- the pixel's ray meets the triangle, at a depth between the lens's
unfoldable pub is_hit : Lens → (px py : ℕ) → Point → Point → Point → Bool
is_hit lens px py v0 v1 v2 =
    let volume = det3 v0 v1 v2 in
    let at = edges (ray lens px py) v0 v1 v2 in
    is_inside volume at && is_in_depth lens (depth_of lens volume at)
