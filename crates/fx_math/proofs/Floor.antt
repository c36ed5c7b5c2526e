-- Division rounded down: what the quotient is, and how it compares.
use Rattle.std.proofs.Common.{ℕ, ◌≡◌, ◌≢◌, zero, suc, ◌<◌, refl, ap, sym, subst, ◌∙◌, arith}
use Rattle.std.specs.Prelude.{ℤ, pos, negsuc, neg_ℤ, ◌+ℤ◌, ◌*ℤ◌, ◌≤ℤ◌, ◌<ℤ◌}
use Rattle.std.proofs.lemmas.Int.{ints, by_lt_z}
use Rattle.std.proofs.Math.Nat.{mul-div-le, lt-mul-div-succ, div-le_self, zero-div}
use Rattle.fx_math.specs.Within.{IsWithin}
use Rattle.fx_math.specs.Fixed.{floor_div}
use Rattle.fx_math.specs.Laws.{IsFloor}
use lib.Signed.{shr_z}
use Rattle.fx_math.proofs.Ring.{order, times_le, mul-add, neg-mul, times_one}

-- the quotient times the divisor is at most the dividend
pub floor_low : (n d : ℤ) → pos 0 <ℤ d → (d *ℤ floor_div n d) ≤ℤ n
unfolding floor_div
floor_low (pos a) (pos d) h = omega (arith, ints, mul-div-le a d)
floor_low (negsuc a) (pos d) h = let some : 0 < d = omega (arith, ints) in omega (arith, ints, lt-mul-div-succ a some)
floor_low n (negsuc d) h = absurd (omega (arith, ints))

-- and the dividend is below the next multiple
pub floor_high : (n d : ℤ) → pos 0 <ℤ d → n <ℤ (d *ℤ floor_div n d +ℤ d)
unfolding floor_div
floor_high (pos a) (pos d) h = let some : 0 < d = omega (arith, ints) in omega (arith, ints, lt-mul-div-succ a some)
floor_high (negsuc a) (pos d) h = omega (arith, ints, mul-div-le a d)
floor_high n (negsuc d) h = absurd (omega (arith, ints))

next : (d h : ℤ) → d *ℤ (h +ℤ pos 1) ≡ d *ℤ h +ℤ d
next d h = mul-add d h (pos 1) ∙ ap (λ (z : ℤ). d *ℤ h +ℤ z) (times_one d)

-- h is at most the quotient exactly where its multiple is at most the dividend
pub floor_at_least : (n d h : ℤ) → pos 0 <ℤ d → (d *ℤ h) ≤ℤ n → h ≤ℤ floor_div n d
floor_at_least n d h some e = by_lt_z (floor_div n d) h
    (λ below.
    let near : (floor_div n d +ℤ pos 1) ≤ℤ h = omega (arith, ints, below) in
    let not_negative : pos 0 ≤ℤ d = omega (arith, ints) in
    absurd (omega (arith, order, floor_high n d some, e, next d (floor_div n d), times_le d (floor_div n d +ℤ pos 1) h not_negative near)))
    (λ at_least. at_least)

pub least_floor : (n d h : ℤ) → pos 0 <ℤ d → h ≤ℤ floor_div n d → (d *ℤ h) ≤ℤ n
least_floor n d h some e =
    let not_negative : pos 0 ≤ℤ d = omega (arith, ints) in
    omega (arith, order, floor_low n d some, times_le d h (floor_div n d) not_negative e)

-- the quotient is below h exactly where the dividend is below the multiple of h
pub floor_below : (n d h : ℤ) → pos 0 <ℤ d → n <ℤ (d *ℤ h) → floor_div n d <ℤ h
floor_below n d h some e = by_lt_z (floor_div n d) h (λ below. below)
    (λ at_least. absurd (omega (arith, order, e, least_floor n d h some at_least)))

pub below_floor : (n d h : ℤ) → pos 0 <ℤ d → floor_div n d <ℤ h → n <ℤ (d *ℤ h)
below_floor n d h some e = by_lt_z n (d *ℤ h) (λ below. below)
    (λ at_least. absurd (omega (arith, order, e, floor_at_least n d h some at_least)))

-- a dividend of at most a multiple of h has a quotient of at most h
pub floor_at_most : (n d h : ℤ) → pos 0 <ℤ d → n ≤ℤ (d *ℤ h) → floor_div n d ≤ℤ h
floor_at_most n d h some e =
    let less : n <ℤ (d *ℤ (h +ℤ pos 1)) = omega (arith, order, e, some, next d h) in
    let below : floor_div n d <ℤ (h +ℤ pos 1) = floor_below n d (h +ℤ pos 1) some less in
    omega (arith, ints, below)

-- a greater dividend has no lesser quotient
pub floor_mono : (m n d : ℤ) → pos 0 <ℤ d → m ≤ℤ n → floor_div m d ≤ℤ floor_div n d
floor_mono m n d some e = floor_at_least n d (floor_div m d) some (omega (arith, order, floor_low m d some, e))

-- the quotient of a multiple
pub floor_times : (d h : ℤ) → pos 0 <ℤ d → floor_div (d *ℤ h) d ≡ h
floor_times d h some =
    let most : floor_div (d *ℤ h) d ≤ℤ h = floor_at_most (d *ℤ h) d h some (omega (arith, order)) in
    let least : h ≤ℤ floor_div (d *ℤ h) d = floor_at_least (d *ℤ h) d h some (omega (arith, order)) in
    omega (arith, order, most, least)

-- the signs of dividend and divisor count only together
pub floor_neg : (n d : ℤ) → d ≢ pos 0 → floor_div (neg_ℤ n) (neg_ℤ d) ≡ floor_div n d
unfolding floor_div
floor_neg n (pos zero) h = absurd (h refl)
floor_neg (pos zero) (pos (suc d)) h = ap pos (sym (zero-div (suc d)))
floor_neg (pos (suc n)) (pos (suc d)) h = refl
floor_neg (negsuc n) (pos (suc d)) h = refl
floor_neg (pos zero) (negsuc d) h = ap pos (zero-div (suc d))
floor_neg (pos (suc n)) (negsuc d) h = refl
floor_neg (negsuc n) (negsuc d) h = refl

-- the quotient is the greatest whole number that is at most n / d
pub floor_is_greatest : (n d : ℤ) → d ≢ pos 0 → IsFloor n d (floor_div n d)
floor_is_greatest n (pos zero) h = absurd (h refl)
floor_is_greatest n (pos (suc d)) h =
    let some : pos 0 <ℤ pos (suc d) = omega (arith, ints) in
    record {
      at_most = floor_low n (pos (suc d)) some;
      greatest = λ z e. floor_at_least n (pos (suc d)) z some e;
    }
floor_is_greatest n (negsuc d) h =
    let some : pos 0 <ℤ pos (suc d) = omega (arith, ints) in
    let turned : floor_div (neg_ℤ n) (pos (suc d)) ≡ floor_div n (negsuc d) = floor_neg n (negsuc d) h in
    let P : ℤ → Type 0 = λ q. IsFloor n (negsuc d) q in
    let q = floor_div (neg_ℤ n) (pos (suc d)) in
    subst P turned (record {
      at_most = omega (arith, order, floor_low (neg_ℤ n) (pos (suc d)) some, neg-mul (pos (suc d)) q);
      greatest = λ z e. floor_at_least (neg_ℤ n) (pos (suc d)) z some (omega (arith, order, e, neg-mul (pos (suc d)) z));
    })

-- a shift by 16 places is the division by 65536
pub floor_by_shift : (z : ℤ) → shr_z z 65536 ≡ floor_div z (pos 65536)
unfolding floor_div
floor_by_shift (pos n) = refl
floor_by_shift (negsuc n) = refl

pub floor_within : {m : ℕ} {z : ℤ} (d : ℕ) → IsWithin m z → 0 < d → IsWithin m (floor_div z (pos d))
unfolding floor_div
floor_within {z = pos n} d h some = record { size = omega (arith, h.size, div-le_self n d) }
floor_within {z = negsuc n} d h some = record { size = omega (arith, h.size, div-le_self n d) }
