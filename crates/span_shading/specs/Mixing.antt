-- Numbers along a row of pixels.
use Rattle.std.specs.Prelude.{ℕ, ◌<◌, ◌^◌, ℤ, pos, ◌+ℤ◌, ◌*ℤ◌}

-- three values of a channel, weighed by three numbers
abbrev pub mix : (x y z : ℕ) → (first second third : ℤ) → ℤ
mix x y z first second third = pos x *ℤ first +ℤ pos y *ℤ second +ℤ pos z *ℤ third

-- three numbers of 8 bits
pub record AreBytes (x y z : ℕ) : Type 0 where
  pub first : x < 2 ^ 8
  pub second : y < 2 ^ 8
  pub third : z < 2 ^ 8

-- a number that changes by a step from a pixel to the next, so many pixels further on
abbrev pub ahead : (here step : ℤ) → ℕ → ℤ
ahead here step n = here +ℤ step *ℤ pos n
