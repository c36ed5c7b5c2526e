-- Division rounded down and up.
use Rattle.std.proofs.Common.{◌≡◌, ◌<◌, ◌^◌, true, false, sym, subst, arith}
use Rattle.std.specs.Prelude.{ℤ, pos, neg_ℤ, ◌+ℤ◌, ◌*ℤ◌, ◌≤ℤ◌, ◌<ℤ◌, unsigned_abs}
use Rattle.std.proofs.lemmas.Int.{ints}
use Rattle.fx_math.specs.Within.{IsWithin}
use Rattle.fx_math.specs.Fixed.{floor_div}
use Rattle.fx_math.proofs.Ring.{order, mul-neg, mul-add, times_one}
use Rattle.fx_math.proofs.Floor.{floor_low, floor_high, floor_at_least, floor_below, floor_within}
use lib.Signed.{lt_z}
use Rattle.tri_cover.specs.Extents.{ceil_div}

-- the least number whose multiple is not below the dividend is the quotient rounded up
ceil_is : (n d q : ℤ) → pos 0 <ℤ d → n ≤ℤ (d *ℤ q) → (d *ℤ q) <ℤ (n +ℤ d) → q ≡ ceil_div n d
ceil_is n d q some above near =
    let least : neg_ℤ q ≤ℤ floor_div (neg_ℤ n) d = floor_at_least (neg_ℤ n) d (neg_ℤ q) some (omega (arith, order, mul-neg d q, above)) in
    let most : floor_div (neg_ℤ n) d <ℤ (neg_ℤ q +ℤ pos 1) = floor_below (neg_ℤ n) d (neg_ℤ q +ℤ pos 1) some
    (omega (arith, order, mul-add d (neg_ℤ q) (pos 1), times_one d, mul-neg d q, near)) in
    omega (arith, ints, least, most)

-- the quotient rounded down is the one rounded up where its multiple is the dividend
pub ceil_same : (n d q : ℤ) → pos 1 ≤ℤ d → q ≡ floor_div n d → n ≤ℤ (d *ℤ q) → q ≡ ceil_div n d
ceil_same n d q some is above =
    let divisor : pos 0 <ℤ d = omega (arith, ints, some) in
    let low : (d *ℤ q) ≤ℤ n = subst (λ (z : ℤ). (d *ℤ z) ≤ℤ n) (sym is) (floor_low n d divisor) in
    ceil_is n d q divisor above (omega (arith, order, low, divisor))

-- and the next one is where it is less
pub ceil_next : (n d q : ℤ) → pos 1 ≤ℤ d → q ≡ floor_div n d → (d *ℤ q) <ℤ n → q +ℤ pos 1 ≡ ceil_div n d
ceil_next n d q some is below =
    let divisor : pos 0 <ℤ d = omega (arith, ints, some) in
    let high : n <ℤ (d *ℤ q +ℤ d) = subst (λ (z : ℤ). n <ℤ (d *ℤ z +ℤ d)) (sym is) (floor_high n d divisor) in
    ceil_is n d (q +ℤ pos 1) divisor (omega (arith, order, mul-add d q (pos 1), times_one d, high)) (omega (arith, order, mul-add d q (pos 1), times_one d, below))

-- ---- bounds
pub quotient_small : (n d q : ℤ) → pos 1 ≤ℤ d → q ≡ floor_div n d → unsigned_abs n < 2 ^ 60 → IsWithin (2 ^ 60) q
quotient_small n d q some is small =
    let whole : d ≡ pos (unsigned_abs d) = omega (arith, ints, some) in
    let above : 0 < unsigned_abs d = omega (arith, ints, some) in
    let n_small : IsWithin (2 ^ 60) n = record { size = omega (arith, small) } in
    subst (λ (z : ℤ). IsWithin (2 ^ 60) z) (sym is) (subst (λ (z : ℤ). IsWithin (2 ^ 60) (floor_div n z)) (sym whole) (floor_within (unsigned_abs d) n_small above))

within_near : (n d m : ℤ) → IsWithin (2 ^ 32) d → unsigned_abs n < 2 ^ 60 → m ≤ℤ n → n <ℤ (m +ℤ d) → IsWithin (2 ^ 61) m
within_near n d m divisor small low high = record { size = omega (arith, ints, divisor.size, small, low, high) }

pub multiple_small : (n d q : ℤ) → pos 1 ≤ℤ d → IsWithin (2 ^ 32) d → q ≡ floor_div n d → unsigned_abs n < 2 ^ 60 → IsWithin (2 ^ 61) (d *ℤ q)
multiple_small n d q some divisor is small =
    let above : pos 0 <ℤ d = omega (arith, ints, some) in
    let low : (d *ℤ q) ≤ℤ n = subst (λ (z : ℤ). (d *ℤ z) ≤ℤ n) (sym is) (floor_low n d above) in
    let high : n <ℤ (d *ℤ q +ℤ d) = subst (λ (z : ℤ). n <ℤ (d *ℤ z +ℤ d)) (sym is) (floor_high n d above) in
    within_near n d (d *ℤ q) divisor small low high

-- ---- tests of numbers that keep their values
pub less_of : (x y a b : ℤ) → x ≡ a → y ≡ b → lt_z x y ≡ true → a <ℤ b
less_of x y a b p q h = omega (arith, ints, p, q, h)

pub not_less_of : (x y a b : ℤ) → x ≡ a → y ≡ b → lt_z x y ≡ false → b ≤ℤ a
not_less_of x y a b p q h = omega (arith, ints, p, q, h)
