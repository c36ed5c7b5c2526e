-- Quotients, rounded down, and what they leave.
use Rattle.std.specs.Prelude.{◌≡◌, ℕ, ◌-◌, ◌/◌, ◌^◌, ℤ, pos, ◌+ℤ◌, ◌*ℤ◌, ◌≤ℤ◌, ◌<ℤ◌, unsigned_abs}

-- the mean is the quotient of the number and the weight, rounded down
pub record IsMean (number weight : ℤ) (mean : ℕ) : Type 0 where
  pub least : (pos mean *ℤ weight) ≤ℤ number
  pub most : number <ℤ (pos mean *ℤ weight +ℤ weight)

-- the rest is what a quotient of this weight leaves
pub record IsLeft (rest weight : ℤ) : Type 0 where
  pub least : pos 0 ≤ℤ rest
  pub most : rest <ℤ weight

-- the number and the weight are those of a channel at a pixel that is covered
pub record IsChannel (number weight : ℤ) : Type 0 where
  pub whole : pos 0 ≤ℤ number
  pub some : pos 0 <ℤ weight
  pub most : number ≤ℤ (pos 255 *ℤ weight)

-- the inverse is 2^64 - 1 divided by the weight, rounded down, where the weight is above 0, and else 0
pub record IsInverse (weight : ℤ) (inverse : ℕ) : Type 0 where
  pub some : pos 0 <ℤ weight → inverse ≡ (2 ^ 64 - 1) / unsigned_abs weight
  pub none : weight ≤ℤ pos 0 → inverse ≡ 0
