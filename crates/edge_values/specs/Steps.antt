-- Edge values after a step, in 128 bits.
use Rattle.std.specs.Prelude.{◌≡◌, ◌^◌, ◌+ℤ◌}
use Rattle.fx_math.specs.Within.{IsWithin}
use Rattle.edge_values.specs.declared.values.EdgeValues.{EdgeValues}

-- the values after a step are small
pub record DoFit (e step : EdgeValues) : Type 0 where
  pub first_within : IsWithin (2 ^ 82) (e.first +ℤ step.first)
  pub second_within : IsWithin (2 ^ 82) (e.second +ℤ step.second)
  pub third_within : IsWithin (2 ^ 82) (e.third +ℤ step.third)

-- t is e after a step
pub record IsSumOf (e step t : EdgeValues) : Type 0 where
  pub first_is : t.first ≡ e.first +ℤ step.first
  pub second_is : t.second ≡ e.second +ℤ step.second
  pub third_is : t.third ≡ e.third +ℤ step.third
