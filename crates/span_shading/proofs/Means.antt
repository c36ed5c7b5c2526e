-- Quotients, rounded down, and what they leave.
use Rattle.std.proofs.Common.{◌≡◌, ℕ, ◌*◌, ◌/◌, ◌<◌, arith, ⊎_elim}
use Rattle.std.specs.Prelude.{ℤ, pos, ◌+ℤ◌, ◌-ℤ◌, ◌*ℤ◌}
use Rattle.std.proofs.lemmas.Bool.{cases_lt}
use Rattle.std.proofs.lemmas.Int.{ints}
use Rattle.std.proofs.lemmas.Nat.{mul-le}
use Rattle.std.proofs.Math.Nat.{lt-div-mul-add, div-mul-le_self}
use Rattle.fx_math.proofs.Ring.{order}
use Rattle.span_shading.specs.Quotients.{IsMean, IsLeft}

taken : (number w r m : ℤ) → r ≡ number -ℤ m *ℤ w → number ≡ m *ℤ w +ℤ r
taken number w r m is = omega (arith, order, is)

pub left_mean : (number w r : ℤ) (m : ℕ) → r ≡ number -ℤ pos m *ℤ w → IsLeft r w → IsMean number w m
left_mean number w r m is left =
    let whole = taken number w r (pos m) is in
    record { least = omega (arith, order, whole, left.least); most = omega (arith, order, whole, left.most) }

pub mean_left : (number w r : ℤ) (m : ℕ) → r ≡ number -ℤ pos m *ℤ w → IsMean number w m → IsLeft r w
mean_left number w r m is mean =
    let whole = taken number w r (pos m) is in
    record { least = omega (arith, order, whole, mean.least); most = omega (arith, order, whole, mean.most) }

pub quotient_mean : (n w : ℕ) → 0 < w → IsMean (pos n) (pos w) (n / w)
quotient_mean n w some = record {
  least = omega (arith, ints, div-mul-le_self n w);
  most = omega (arith, ints, lt-div-mul-add {a = n} {b = w} some);
}

pub quotient_before : (limit n s : ℕ) → 0 < s → n < limit * s → n / s < limit
quotient_before limit n s some h = ⊎_elim
    (λ below. below)
    (λ above. absurd (omega (arith, h, mul-le limit s (n / s) s above (omega arith), div-mul-le_self n s)))
    (cases_lt (n / s) limit)
