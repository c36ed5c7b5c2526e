-- Numbers that are small enough for 64 bits, and edge values of small coefficients.
use Rattle.std.specs.Prelude.{ℕ, ◌^◌, ℤ, pos, ◌+ℤ◌, ◌*ℤ◌}
use Rattle.fx_math.specs.Within.{IsWithin}

-- none of three numbers has a magnitude above the most
pub record AreWithin (most : ℕ) (first second third : ℤ) : Type 0 where
  pub first_within : IsWithin most first
  pub second_within : IsWithin most second
  pub third_within : IsWithin most third

-- the value of the linear function of these coefficients at the pixel (px, py)
abbrev pub value_of : (a b c : ℤ) → (px py : ℕ) → ℤ
value_of a b c px py = (pos 2 *ℤ a) *ℤ pos px +ℤ (pos 2 *ℤ b) *ℤ pos py +ℤ c

-- by how much it changes from a pixel to the next one of its row
abbrev pub step_of : (a : ℤ) → ℤ
step_of a = pos 2 *ℤ a

-- the coefficients are so small that the values at the pixels of a picture have a magnitude of at most 2^52
pub record AreSmallCoefficients (a b c : ℤ) : Type 0 where
  pub a_within : IsWithin (2 ^ 39) a
  pub b_within : IsWithin (2 ^ 39) b
  pub c_within : IsWithin (2 ^ 50) c
