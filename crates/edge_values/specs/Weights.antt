-- Edge values as numbers, and what they tell of a pixel.
use Rattle.std.specs.Prelude.{◌≡◌, ℕ, ◌<◌, ◌^◌, Bool, true, ◌&&◌, ℤ, pos, ◌+ℤ◌, ◌≤ℤ◌, ◌<ℤ◌, int_le, int_lt}
use Rattle.fx_math.specs.Within.{IsWithin}

-- the bounds of edge values at the pixels of a picture, and of their steps
pub record AreSmall (first second third : ℤ) : Type 0 where
  pub first_within : IsWithin (2 ^ 82) first
  pub second_within : IsWithin (2 ^ 82) second
  pub third_within : IsWithin (2 ^ 82) third

-- the edge values are those of a pixel that is covered: none is below 0, and their sum is above 0
abbrev pub are_covering : (first second third : ℤ) → Bool
are_covering first second third =
    int_le (pos 0) first && int_le (pos 0) second && int_le (pos 0) third && int_lt (pos 0) (first +ℤ second +ℤ third)

-- the edge values are those of a pixel that is covered, and this is their sum
pub record IsWeightOf (first second third : ℤ) (sum : ℕ) : Type 0 where
  pub covering : are_covering first second third ≡ true
  pub is_sum : pos sum ≡ first +ℤ second +ℤ third
  pub some : 0 < sum
  pub bound : sum < 2 ^ 84

-- none of three edge values is below 0
pub record AreInner (first second third : ℤ) : Type 0 where
  pub first_inner : pos 0 ≤ℤ first
  pub second_inner : pos 0 ≤ℤ second
  pub third_inner : pos 0 ≤ℤ third

-- none of three edge values is below 0, and this is their sum
pub record IsInnerSum (first second third : ℤ) (sum : ℕ) : Type 0 where
  pub inner : AreInner first second third
  pub is_sum : pos sum ≡ first +ℤ second +ℤ third

-- both numbers are below 0
pub record AreBelow (a b : ℤ) : Type 0 where
  pub first_below : a <ℤ pos 0
  pub second_below : b <ℤ pos 0
