-- The bounds of edge values.
use Rattle.std.specs.Prelude.{ℤ}
use Rattle.fx_math.specs.Within.{IsWithin}

-- the bound of a determinant of rows of 31 bits: 6 * 2^93
abbrev pub IsDeterminant : ℤ → Type 0
IsDeterminant z = IsWithin 59421121885698253195157962752 z

pub record AreDeterminants (e0 e1 e2 : ℤ) : Type 0 where
  pub first : IsDeterminant e0
  pub second : IsDeterminant e1
  pub third : IsDeterminant e2
