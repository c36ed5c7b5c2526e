-- Means of three numbers, weighed by numbers that are not below 0.
use Rattle.std.proofs.Common.{◌≡◌, arith, ◌∙◌, ap}
use Rattle.std.specs.Prelude.{ℤ, pos, ◌+ℤ◌, ◌*ℤ◌, ◌≤ℤ◌, ◌<ℤ◌}
use Rattle.std.proofs.lemmas.Int.{ints, by_lt_z}
use Rattle.fx_math.proofs.Ring.{expand, linear, order, times_le, times_one}

-- the weights
pub record AreWeights (a b c : ℤ) : Type 0 where
  pub first : pos 0 ≤ℤ a
  pub second : pos 0 ≤ℤ b
  pub third : pos 0 ≤ℤ c

-- a sum of three products
abbrev pub mix : (a b c x y z : ℤ) → ℤ
mix a b c x y z = a *ℤ x +ℤ b *ℤ y +ℤ c *ℤ z

mix_times : (a b c x y z l : ℤ) → mix a b c (x *ℤ l) (y *ℤ l) (z *ℤ l) ≡ mix a b c x y z *ℤ l
mix_times a b c x y z l = simp expand (omega (arith, linear))

mix_add : (a b c x y z p q r : ℤ) → mix a b c (x +ℤ p) (y +ℤ q) (z +ℤ r) ≡ mix a b c x y z +ℤ mix a b c p q r
mix_add a b c x y z p q r = simp expand (omega (arith, linear))

pub mix_le : (a b c x y z p q r : ℤ) → AreWeights a b c → x ≤ℤ p → y ≤ℤ q → z ≤ℤ r → mix a b c x y z ≤ℤ mix a b c p q r
mix_le a b c x y z p q r w i j k =
    omega (arith, order, times_le a x p w.first i, times_le b y q w.second j, times_le c z r w.third k)

-- a mean is below what bounds its numbers from above, where some weight is above 0: k times it is the sum of the numerators, and
-- k that of the divisors
pub mean_below : (a b c x y z m n o k p l : ℤ) → AreWeights a b c → pos 0 <ℤ k → pos 0 <ℤ (a +ℤ b +ℤ c)
    → mix a b c x y z ≡ k → mix a b c m n o ≡ k *ℤ p
    → m <ℤ (x *ℤ l) → n <ℤ (y *ℤ l) → o <ℤ (z *ℤ l) → p <ℤ l
mean_below a b c x y z m n o k p l w some weight divisors numerators i j h = by_lt_z p l
    (λ below. below)
    (λ at_least. absurd (omega (
      arith,
      order,
      times_le k l p (omega (arith, order, some)) at_least,
      mix_le a b c (m +ℤ pos 1) (n +ℤ pos 1) (o +ℤ pos 1) (x *ℤ l) (y *ℤ l) (z *ℤ l) w (omega (arith, ints, i)) (omega (arith, ints, j)) (omega (arith, ints, h)),
      mix_add a b c m n o (pos 1) (pos 1) (pos 1),
      times_one a,
      times_one b,
      times_one c,
      mix_times a b c x y z l ∙ ap (λ (d : ℤ). d *ℤ l) divisors,
      numerators,
      weight,
    )))
