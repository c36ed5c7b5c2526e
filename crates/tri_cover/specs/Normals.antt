-- The bounds of the normals of planes through the eye and two points, and their signs.
use Rattle.std.specs.Prelude.{◌^◌, if◌then◌else◌, ℤ, pos, neg_ℤ, int_lt}
use Rattle.fx_math.specs.Within.{IsWithin}

pub record AreNormal (x y z : ℤ) : Type 0 where
  pub x_within : IsWithin (2 ^ 61) x
  pub y_within : IsWithin (2 ^ 61) y
  pub z_within : IsWithin (2 ^ 61) z

-- the number, with its sign turned where the first number is below 0
abbrev pub turned : (sign z : ℤ) → ℤ
turned sign z = if int_lt sign (pos 0) then neg_ℤ z else z
