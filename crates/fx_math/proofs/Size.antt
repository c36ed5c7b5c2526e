-- Bounds on magnitudes, which compose as terms: each sum, difference and product has the bound of its parts.
use Rattle.std.proofs.Common.{◌≡◌, ℕ, ◌+◌, ◌*◌, ◌≤◌, ◌<◌, ◌^◌, subst, sym, arith}
use Rattle.std.specs.Prelude.{ℤ, neg_ℤ, ◌+ℤ◌, ◌-ℤ◌, ◌*ℤ◌}
use Rattle.std.proofs.Math.Nat.{mul-le-mul}
use Rattle.std.proofs.lemmas.Int.{ints, to_z-of_z, unsigned_abs-mul, fits_signed_from_abs}
use Rattle.fx_math.specs.Within.{IsWithin}
use mir.Syntax.{Width}
use mir.Val.{SFits, of_z, to_z, hbits}

pub within_add : {m n : ℕ} {a b : ℤ} → IsWithin m a → IsWithin n b → IsWithin (m + n) (a +ℤ b)
within_add p q = record { size = omega (arith, ints, p.size, q.size) }

pub within_sub : {m n : ℕ} {a b : ℤ} → IsWithin m a → IsWithin n b → IsWithin (m + n) (a -ℤ b)
within_sub p q = record { size = omega (arith, ints, p.size, q.size) }

pub within_neg : {m : ℕ} {a : ℤ} → IsWithin m a → IsWithin m (neg_ℤ a)
within_neg p = record { size = omega (arith, ints, p.size) }

pub within_mul : {m n : ℕ} {a b : ℤ} → IsWithin m a → IsWithin n b → IsWithin (m * n) (a *ℤ b)
within_mul {m} {n} {a} {b} p q = record {
  size = subst (λ (k : ℕ). k ≤ m * n) (sym (unsigned_abs-mul a b)) (mul-le-mul p.size q.size);
}

-- a greater bound holds too
pub within_more : {m : ℕ} {a : ℤ} (n : ℕ) → IsWithin m a → m ≤ n → IsWithin n a
within_more n p h = record { size = omega (arith, p.size, h) }

-- a number of a small bound fits a signed width
pub fits : (w : Width) {m : ℕ} {z : ℤ} → IsWithin m z → m < 2 ^ hbits w → SFits w z
fits w {m} {z} p h = fits_signed_from_abs w z (omega (arith, p.size, h))

-- what is read back from the bits of a number of a small bound
pub back : (w : Width) {m : ℕ} {z : ℤ} → IsWithin m z → m < 2 ^ hbits w → to_z w (of_z w z) ≡ z
back w {m} {z} p h = to_z-of_z w z (fits w p h)
