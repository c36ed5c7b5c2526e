-- Edge values in 64 bits, along a row of pixels.
use Rattle.std.specs.Prelude.{◌≡◌, ◌⊎◌, ◌^◌, ◌+ℤ◌}
use Rattle.fx_math.specs.Within.{IsWithin}
use Rattle.edge_values.specs.Weights.{AreBelow, AreInner}
use Rattle.edge_values.specs.declared.narrow.NarrowLine.{NarrowLine}
use Rattle.edge_values.specs.declared.narrow.NarrowValues.{NarrowValues}

-- the values after a step are small
pub record DoFit (v step : NarrowValues) : Type 0 where
  pub first_within : IsWithin (2 ^ 52) (v.first +ℤ step.first)
  pub second_within : IsWithin (2 ^ 52) (v.second +ℤ step.second)
  pub third_within : IsWithin (2 ^ 52) (v.third +ℤ step.third)

-- t is v after a step
pub record IsSumOf (v step t : NarrowValues) : Type 0 where
  pub first_is : t.first ≡ v.first +ℤ step.first
  pub second_is : t.second ≡ v.second +ℤ step.second
  pub third_is : t.third ≡ v.third +ℤ step.third

-- none of the edge values is below 0 at the first nor at the last pixel of the line
pub record IsInside (l : NarrowLine) : Type 0 where
  pub start : AreInner l.start.first l.start.second l.start.third
  pub last : AreInner l.last.first l.last.second l.last.third

-- one edge value is below 0 at the first and at the last pixel of the line
abbrev pub IsOutside : NarrowLine → Type 0
IsOutside l = AreBelow l.start.first l.last.first ⊎ (AreBelow l.start.second l.last.second ⊎ AreBelow l.start.third l.last.third)
