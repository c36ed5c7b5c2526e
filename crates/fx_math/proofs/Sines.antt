-- Facts on the sine: its size, and its two half turns.
use Rattle.std.proofs.Common.{◌≡◌, ℕ, ◌+◌, ◌-◌, ◌*◌, ◌≤◌, ◌<◌, refl, ap, sym, subst, inl, inr, arith}
use Rattle.std.specs.Prelude.{ℤ, pos, negsuc, neg_ℤ, unsigned_abs}
use Rattle.std.specs.Int.{int_rem_euclid}
use Rattle.std.proofs.Math.Nat.{div-le_of_le-mul}
use Rattle.std.proofs.lemmas.Bool.{cases_lt}
use Rattle.std.proofs.lemmas.Bool.Decides.{nat_tests}
use Rattle.fx_math.specs.Within.{IsWithin}
use Rattle.fx_math.proofs.Size.{within_neg}
use Rattle.fx_math.specs.Steps.{half_wave, sine}

-- the product of the two parts of 1800 is greatest where they are equal
product_of_halves : (x d : ℕ) → x + x + d ≡ 1800 → x * (x + d) ≤ 810000
product_of_halves x d e = omega (arith, ap (λ (n : ℕ). x * n) e, ap (λ (n : ℕ). d * n) e)

pub product_at_most : (x : ℕ) → x ≤ 1800 → x * (1800 - x) ≤ 810000
product_at_most x h =
    let low : x ≤ 900 → x * (1800 - x) ≤ 810000 = λ l.
    let y : 1800 - x ≡ x + (1800 - x - x) = omega arith in
    rw y (product_of_halves x (1800 - x - x) (omega arith)) in
    let high : 900 < x → x * (1800 - x) ≤ 810000 = λ l.
    let y : x ≡ (1800 - x) + (x - (1800 - x)) = omega arith in
    let most : (1800 - x) * ((1800 - x) + (x - (1800 - x))) ≤ 810000 = product_of_halves (1800 - x) (x - (1800 - x)) (omega arith) in
    subst (λ (n : ℕ). n * (1800 - x) ≤ 810000) (sym y) (omega (arith, most)) in
    elim (cases_lt 900 x) [ inl l ↦ high l | inr l ↦ low l ]

rem_euclid_below : (x : ℤ) → unsigned_abs (int_rem_euclid x (pos 3600)) < 3600
rem_euclid_below (pos n) = omega arith
rem_euclid_below (negsuc n) = omega arith

pub half_wave-le : (x : ℕ) → x ≤ 1800 → half_wave x ≤ 65536
unfolding half_wave
half_wave-le x h =
    let small : x * (1800 - x) ≤ 810000 = product_at_most x h in
    div-le_of_le-mul (4050000 - x * (1800 - x)) (omega arith)

-- the sine at the part n of a turn: in its first half, and in its second
pub sine_first : (x : ℤ) (n : ℕ) → n ≡ unsigned_abs (int_rem_euclid x (pos 3600)) → n ≤ 1800 → sine x ≡ pos (half_wave n)
unfolding sine
sine_first x n e h = grind (arith, nat_tests)

pub sine_second : (x : ℤ) (n : ℕ) → n ≡ unsigned_abs (int_rem_euclid x (pos 3600)) → 1800 < n → sine x ≡ neg_ℤ (pos (half_wave (n - 1800)))
unfolding sine
sine_second x n e h = grind (arith, nat_tests)

-- a sine is at most 1 in magnitude
pub sine_within : (x : ℤ) → IsWithin 65536 (sine x)
sine_within x =
    let n = unsigned_abs (int_rem_euclid x (pos 3600)) in
    let part : n < 3600 = rem_euclid_below x in
    elim (cases_lt 1800 n) [
      | inl l ↦ subst (λ (z : ℤ). IsWithin 65536 z) (sym (sine_second x n refl l)) (within_neg {a = pos (half_wave (n - 1800))} (record { size = half_wave-le (n - 1800) (omega arith) }))
      | inr l ↦ subst (λ (z : ℤ). IsWithin 65536 z) (sym (sine_first x n refl l)) (record { size = half_wave-le n l })
    ]
