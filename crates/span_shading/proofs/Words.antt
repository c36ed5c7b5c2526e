-- Numbers of 64 bits that are passed on.
use Rattle.std.proofs.Common.{◌≡◌, ℕ, ◌*◌, ◌^◌, lit<, Bool, FitsSigned, to_z, of_z, subst}
use Rattle.std.specs.Prelude.{ℤ, pos, ◌<ℤ◌, IsTrue, ◌↔◌}
use Rattle.std.proofs.lemmas.Int.{to_z-of_z}
use mir.Syntax.{w64}
use Rattle.fx_math.specs.Within.{IsWithin}
use Rattle.fx_math.proofs.Size.{back}
use Rattle.span_shading.specs.Quotients.{IsMean, IsChannel}

number_back : (n : ℤ) → IsWithin (3 * 2 ^ 60) n → to_z w64 (of_z w64 n) ≡ n
number_back n small = back w64 small (lit< tt)

weight_back : (w : ℤ) → IsWithin (3 * 2 ^ 52) w → to_z w64 (of_z w64 w) ≡ w
weight_back w small = back w64 small (lit< tt)

-- what a function tells of numbers that are passed on to it
pub passed : (n w : ℤ) (m : ℕ) → FitsSigned w64 n → FitsSigned w64 w
    → (IsChannel (to_z w64 (of_z w64 n)) (to_z w64 (of_z w64 w)) → IsMean (to_z w64 (of_z w64 n)) (to_z w64 (of_z w64 w)) m)
    → IsChannel n w → IsMean n w m
passed n w m p q is =
    subst (λ (z : ℤ). IsChannel n z → IsMean n z m) (to_z-of_z w64 w q)
    (subst (λ (z : ℤ). IsChannel z (to_z w64 (of_z w64 w)) → IsMean z (to_z w64 (of_z w64 w)) m) (to_z-of_z w64 n p) is)

-- of a sum and a weight
pub told : (n w : ℤ) (m : ℕ) → IsWithin (3 * 2 ^ 60) n → IsWithin (3 * 2 ^ 52) w
    → (IsChannel (to_z w64 (of_z w64 n)) (to_z w64 (of_z w64 w)) → IsMean (to_z w64 (of_z w64 n)) (to_z w64 (of_z w64 w)) m)
    → IsChannel n w → IsMean n w m
told n w m p q is =
    subst (λ (z : ℤ). IsChannel n z → IsMean n z m) (weight_back w q)
    (subst (λ (z : ℤ). IsChannel z (to_z w64 (of_z w64 w)) → IsMean z (to_z w64 (of_z w64 w)) m) (number_back n p) is)

pub judged : (n w : ℤ) (m : ℕ) (found : Bool) → IsWithin (3 * 2 ^ 60) n → IsWithin (3 * 2 ^ 52) w
    → (pos 0 <ℤ to_z w64 (of_z w64 w) → (IsTrue found ↔ IsMean (to_z w64 (of_z w64 n)) (to_z w64 (of_z w64 w)) m))
    → pos 0 <ℤ w → (IsTrue found ↔ IsMean n w m)
judged n w m found p q is =
    subst (λ (z : ℤ). pos 0 <ℤ z → (IsTrue found ↔ IsMean n z m)) (weight_back w q)
    (subst (λ (z : ℤ). pos 0 <ℤ to_z w64 (of_z w64 w) → (IsTrue found ↔ IsMean z (to_z w64 (of_z w64 w)) m)) (number_back n p) is)

pub kept : (n w : ℤ) (m : ℕ) → IsWithin (3 * 2 ^ 60) n → IsWithin (3 * 2 ^ 52) w → IsMean (to_z w64 (of_z w64 n)) (to_z w64 (of_z w64 w)) m → IsMean n w m
kept n w m p q is =
    subst (λ (z : ℤ). IsMean n z m) (weight_back w q) (subst (λ (z : ℤ). IsMean z (to_z w64 (of_z w64 w)) m) (number_back n p) is)
