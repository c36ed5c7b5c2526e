-- Means of a channel along a row of pixels, in 128 bits.
use Rattle.std.specs.Prelude.{◌≡◌, ℕ, ◌^◌, ℤ, pos, ◌+ℤ◌, ◌-ℤ◌, ◌*ℤ◌}
use Rattle.fx_math.specs.Within.{IsWithin}
use Rattle.span_shading.specs.Quotients.{IsLeft}
use Rattle.span_shading.specs.declared.wide_means.Mean.{Mean}
use Rattle.span_shading.specs.declared.wide.WideWeight.{WideWeight}

-- what the mean leaves of this number, and of this change of it
pub record IsMeanOf (number step : ℤ) (w : WideWeight) (m : Mean) : Type 0 where
  pub rest_is : m.rest ≡ number -ℤ pos m.mean *ℤ w.here
  pub change_is : m.change ≡ step -ℤ pos m.mean *ℤ w.step

-- the mean is the quotient, rounded down
abbrev pub IsSettled : Mean → WideWeight → Type 0
IsSettled m w = IsLeft m.rest w.here

-- the numbers are small enough for a settling
pub record IsSmallMean (m : Mean) : Type 0 where
  pub rest_within : IsWithin (2 ^ 97) m.rest
  pub change_within : IsWithin (2 ^ 97) m.change

-- the same mean, at the next pixel of the row
pub record IsNextOf (m n : Mean) : Type 0 where
  pub mean_is : n.mean ≡ m.mean
  pub rest_is : n.rest ≡ m.rest +ℤ m.change
  pub change_is : n.change ≡ m.change

-- the mean is the quotient here, and so many pixels further on
pub record Stays (m : Mean) (w : WideWeight) (count : ℕ) : Type 0 where
  pub here : IsLeft m.rest w.here
  pub there : IsLeft (m.rest +ℤ m.change *ℤ pos count) (w.here +ℤ w.step *ℤ pos count)
