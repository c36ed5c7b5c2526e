-- The bounds of the coefficients of linear functions of the pixel.
use Rattle.std.specs.Prelude.{◌*◌, ◌^◌, ℤ}
use Rattle.fx_math.specs.Within.{IsWithin}

-- those of an edge value, whose magnitude is below 2^81 at each pixel of a picture
pub record AreNarrow (a b c : ℤ) : Type 0 where
  pub a_within : IsWithin (2 ^ 61) a
  pub b_within : IsWithin (2 ^ 61) b
  pub c_within : IsWithin (2 ^ 80) c

-- those of a sum of three edge values, whose magnitude is at most 2^82
pub record AreWide (a b c : ℤ) : Type 0 where
  pub a_within : IsWithin (3 * 2 ^ 61) a
  pub b_within : IsWithin (3 * 2 ^ 61) b
  pub c_within : IsWithin (3 * 2 ^ 80) c
