-- The ring laws of the integers. `simp expand` multiplies products out and sorts each one, and `omega (arith, linear)` then
-- proves an equation of polynomials, `omega (arith, order)` an order; each product of variables is an unknown there.
use Rattle.std.proofs.Common.{◌≡◌, ℕ, ◌+◌, ◌*◌, ap, sym, ◌∙◌, arith}
use Rattle.std.specs.Prelude.{ℤ, pos, neg_ℤ, ◌+ℤ◌, ◌*ℤ◌, negsuc, ◌≤ℤ◌, ◌<ℤ◌}
use borrow.Author.Differences.{up, down, same_in, same_out, sum_is_lem, neg_is, product_is, lt_out, le_out, below_in, at_most_in}
use lib.IntN.{*ℤ_comm}
use Rattle.std.proofs.Math.Nat.{mul-le-mul_left}
use Rattle.std.proofs.lemmas.Int.{ints}

pub ruleset linear = (same_in, sum_is_lem, neg_is)

pub ruleset order = (linear, same_out, lt_out, le_out, below_in, at_most_in)

pub mul-add : (a b c : ℤ) → a *ℤ (b +ℤ c) ≡ a *ℤ b +ℤ a *ℤ c
mul-add a b c =
    let e : up (b +ℤ c) + down b + down c ≡ down (b +ℤ c) + up b + up c = sum_is_lem b c in
    omega (arith, linear, product_is a (b +ℤ c), product_is a b, product_is a c, ap (λ (n : ℕ). up a * n) e, ap (λ (n : ℕ). down a * n) e)

pub add-mul : (a b c : ℤ) → (a +ℤ b) *ℤ c ≡ a *ℤ c +ℤ b *ℤ c
add-mul a b c = omega (arith, linear, same_out, *ℤ_comm (a +ℤ b) c, *ℤ_comm a c, *ℤ_comm b c, mul-add c a b)

pub mul-neg : (a b : ℤ) → a *ℤ neg_ℤ b ≡ neg_ℤ (a *ℤ b)
mul-neg a b =
    omega (arith, linear, product_is a (neg_ℤ b), product_is a b, ap (λ (n : ℕ). up a * n) (neg_is b).0, ap (λ (n : ℕ). down a * n) (neg_is b).0, ap (λ (n : ℕ). up a * n) (neg_is b).1, ap (λ (n : ℕ). down a * n) (neg_is b).1)

pub neg-mul : (a b : ℤ) → neg_ℤ a *ℤ b ≡ neg_ℤ (a *ℤ b)
neg-mul a b = *ℤ_comm (neg_ℤ a) b ∙ mul-neg b a ∙ ap neg_ℤ (*ℤ_comm b a)

pub mul_assoc : (a b c : ℤ) → (a *ℤ b) *ℤ c ≡ a *ℤ (b *ℤ c)
mul_assoc a b c =
    omega (
      arith,
      linear,
      product_is (a *ℤ b) c,
      product_is a (b *ℤ c),
      ap (λ (n : ℕ). n * up c) (product_is a b).0,
      ap (λ (n : ℕ). n * up c) (product_is a b).1,
      ap (λ (n : ℕ). n * down c) (product_is a b).0,
      ap (λ (n : ℕ). n * down c) (product_is a b).1,
      ap (λ (n : ℕ). up a * n) (product_is b c).0,
      ap (λ (n : ℕ). up a * n) (product_is b c).1,
      ap (λ (n : ℕ). down a * n) (product_is b c).0,
      ap (λ (n : ℕ). down a * n) (product_is b c).1,
    )

pub times_one : (a : ℤ) → a *ℤ pos 1 ≡ a
times_one a = omega (arith, linear, product_is a (pos 1))

pub mul_left_comm : (a b c : ℤ) → a *ℤ (b *ℤ c) ≡ b *ℤ (a *ℤ c)
mul_left_comm a b c = sym (mul_assoc a b c) ∙ ap (λ (z : ℤ). z *ℤ c) (*ℤ_comm a b) ∙ mul_assoc b a c

pub ruleset expand = (mul-add, add-mul, mul-neg, neg-mul, mul_assoc, mul_left_comm, *ℤ_comm)

-- a factor that is not negative keeps an order, and one above 0 keeps it strictly
pub times_le : (a x y : ℤ) → pos 0 ≤ℤ a → x ≤ℤ y → (a *ℤ x) ≤ℤ (a *ℤ y)
times_le (pos n) x y h e =
    omega (arith, order, product_is (pos n) x, product_is (pos n) y, mul-le-mul_left n (le_out x y e))
times_le (negsuc n) x y h e = absurd (omega (arith, ints, h))

pub times_lt : (a x y : ℤ) → pos 0 <ℤ a → x <ℤ y → (a *ℤ x) <ℤ (a *ℤ y)
times_lt a x y h e =
    let one : pos 0 ≤ℤ a = omega (arith, ints) in
    let near : (x +ℤ pos 1) ≤ℤ y = omega (arith, ints) in
    let most : (a *ℤ (x +ℤ pos 1)) ≤ℤ (a *ℤ y) = times_le a (x +ℤ pos 1) y one near in
    let apart : a *ℤ (x +ℤ pos 1) ≡ a *ℤ x +ℤ a = mul-add a x (pos 1) ∙ ap (λ (z : ℤ). a *ℤ x +ℤ z) (times_one a) in
    omega (arith, order, most, apart)
