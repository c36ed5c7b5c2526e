-- Quotients of whole numbers, rounded down, and what they leave.
use Rattle.std.proofs.Common.{◌≡◌, ℕ, ◌+◌, ◌-◌, ◌*◌, ◌/◌, ◌%◌, ◌^◌, ◌<◌, ◌≤◌, ap, ◌∙◌, arith, ⊎_elim}
use Rattle.std.proofs.lemmas.Bool.{cases_lt}
use Rattle.std.proofs.lemmas.Nat.{mul-le, mod-mul-add}
use Rattle.std.proofs.Math.Nat.{lt-div-mul-add, div-mul-le_self, add-mul, mod-eq_of_lt}

pub limit_reached : (limit n s : ℕ) → 0 < s → limit * s ≤ n → limit ≤ n / s
limit_reached limit n s some h = let q = lt-div-mul-add {a = n} {b = s} some in ⊎_elim (λ below. absurd (let m = mul-le (n / s + 1) s limit s (omega (arith, below)) (omega arith) in omega (arith, h, q, m, add-mul (n / s) 1 s))) (λ above. above) (cases_lt (n / s) limit)

less_product : (m n s : ℕ) → m < n → m * s + s ≤ n * s
less_product m n s l = omega (arith, mul-le (m + 1) s n s (omega arith) (omega arith), add-mul m 1 s)

pub quotient_before : (limit n s : ℕ) → 0 < s → n < limit * s → n / s < limit
quotient_before limit n s some h = ⊎_elim
    (λ below. below)
    (λ above. absurd (omega (arith, h, mul-le limit s (n / s) s above (omega arith), div-mul-le_self n s)))
    (cases_lt (n / s) limit)

pub quotient_is : (n s g : ℕ) → 0 < s → g * s ≤ n → n < g * s + s → g ≡ n / s
quotient_is n s g some low high =
    let most : n / s ≤ g = ⊎_elim (λ below. absurd (omega (arith, high, less_product g (n / s) s below, div-mul-le_self n s))) (λ above. above) (cases_lt g (n / s)) in
    let least : g ≤ n / s = limit_reached g n s some low in
    omega (arith, most, least)

-- ---- what a guess leaves, in 128 bits
product_most : (g s : ℕ) → g < 2 ^ 32 → s < 2 ^ 84 → g * s ≤ 2 ^ 116
product_most g s few small = mul-le g s (2 ^ 32) (2 ^ 84) (omega (arith, few)) (omega (arith, small))

-- it wraps around where the product is greater than the dividend
left_over : (n s low : ℕ) → n < 2 ^ 128 → s < 2 ^ 84 → low ≤ 2 ^ 116 → (n + (2 ^ 128 - low)) % 2 ^ 128 < s → (low ≤ n) × (n < low + s)
left_over n s low fits small most l = ⊎_elim
    (λ under.
    let around : (n + (2 ^ 128 - low)) % 2 ^ 128 ≡ n + (2 ^ 128 - low) = mod-eq_of_lt (omega (arith, under, most)) in
    absurd (omega (arith, l, around, most, small)))
    (λ over.
    let rest : (1 * 2 ^ 128 + (n - low)) % 2 ^ 128 ≡ n - low = mod-mul-add 1 (2 ^ 128) (n - low) (omega (arith, fits)) in
    let same : n + (2 ^ 128 - low) ≡ 1 * 2 ^ 128 + (n - low) = omega (arith, over, most) in
    let left : (n + (2 ^ 128 - low)) % 2 ^ 128 ≡ n - low = ap (λ (m : ℕ). m % 2 ^ 128) same ∙ rest in
    (over, omega (arith, over, l, left)))
    (cases_lt n low)

pub divisor_left : (m s : ℕ) → m < s → 0 < s
divisor_left m s l = omega (arith, l)

pub quotient_left : (n s g low m : ℕ) → n < 2 ^ 128 → s < 2 ^ 84 → g < 2 ^ 32 → low ≡ g * s → m ≡ (n + (2 ^ 128 - low)) % 2 ^ 128 → m < s → g ≡ n / s
quotient_left n s g low m fits small few product left l =
    let parts = left_over n s low fits small (omega (arith, product, product_most g s few small)) (omega (arith, left, l)) in
    quotient_is n s g (omega (arith, l)) (omega (arith, product, parts.0)) (omega (arith, product, parts.1))
