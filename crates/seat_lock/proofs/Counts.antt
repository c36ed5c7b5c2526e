-- Sums over a list, and how often a number stands in it.
use Rattle.std.proofs.Common.{◌≡◌, ◌≢◌, ℕ, zero, suc, ◌+◌, ◌<◌, ◌≤◌, List, [], ◌∷◌, ◌++◌, length, set, refl, sym, ap, arith}
use mathlib.Core.Option.{some, some-injective, some-ne-none}
use lib.ListN.{get_elem?}
use Rattle.std.proofs.lemmas.Bool.Decides.{nat_tests}
use Rattle.seat_lock.specs.Sums.{one, below, inside, total, times, numbers_from}

pub one_same : (k x : ℕ) → k ≡ x → one k x ≡ 1
one_same k x e = grind (arith, nat_tests)

pub one_is : (k x : ℕ) → 0 < one k x → k ≡ x
one_is k x h = grind (arith, nat_tests)

pub below_le : (k n : ℕ) → below k n ≤ 1
below_le k n = grind (arith, nat_tests)

pub below_yes : (k n : ℕ) → k < n → below k n ≡ 1
below_yes k n h = grind (arith, nat_tests)

pub below_no : (k n : ℕ) → n ≤ k → below k n ≡ 0
below_no k n h = grind (arith, nat_tests)

pub below_is : (k n : ℕ) → 0 < below k n → k < n
below_is k n h = grind (arith, nat_tests)

-- one number more
pub below_more : (k n : ℕ) → below k (n + 1) ≡ below k n + one k n
below_more k n = grind (arith, nat_tests)

pub inside_none : (k n : ℕ) → inside n n k ≡ 0
inside_none k n = grind (arith, nat_tests)

pub inside_yes : (from to k : ℕ) → from ≤ k → k < to → inside from to k ≡ 1
inside_yes from to k a b = grind (arith, nat_tests)

pub inside_first : (from to k : ℕ) → from < to → inside (from + 1) to k + one k from ≡ inside from to k
inside_first from to k h = grind (arith, nat_tests)

module _ {A : Type 0} (f : A → ℕ) where
  -- the sum after a change of one element
  pub total_set : (vs : List A) (i : ℕ) (v w : A) → get_elem? vs i ≡ some v → total f (set vs i w) + f v ≡ total f vs + f w
  total_set [] i v w e = absurd (some-ne-none v (sym e))
  total_set (x ∷ xs) zero v w e = let h : f x ≡ f v = ap f (some-injective x v e) in omega arith
  total_set (x ∷ xs) (suc i) v w e = let h : total f (set xs i w) + f v ≡ total f xs + f w = total_set xs i v w e in omega arith

  pub total_snoc : (vs : List A) (w : A) → total f (vs ++ w ∷ []) ≡ total f vs + f w
  total_snoc [] w = omega arith
  total_snoc (x ∷ xs) w = let h : total f (xs ++ w ∷ []) ≡ total f xs + f w = total_snoc xs w in omega arith

  pub total-append : (xs ys : List A) → total f (xs ++ ys) ≡ total f xs + total f ys
  total-append [] ys = omega arith
  total-append (x ∷ xs) ys = let h : total f (xs ++ ys) ≡ total f xs + total f ys = total-append xs ys in omega arith

  -- one element is no more than the sum
  pub total_has : (vs : List A) (i : ℕ) (v : A) → get_elem? vs i ≡ some v → f v ≤ total f vs
  total_has [] i v e = absurd (some-ne-none v (sym e))
  total_has (x ∷ xs) zero v e = let h : f x ≡ f v = ap f (some-injective x v e) in omega arith
  total_has (x ∷ xs) (suc i) v e = let h : f v ≤ total f xs = total_has xs i v e in omega arith

  -- nor are two
  pub total_two : (vs : List A) (i j : ℕ) (v w : A) → i ≢ j → get_elem? vs i ≡ some v → get_elem? vs j ≡ some w → f v + f w ≤ total f vs
  total_two [] i j v w n e d = absurd (some-ne-none v (sym e))
  total_two (x ∷ xs) zero zero v w n e d = absurd (n refl)
  total_two (x ∷ xs) zero (suc j) v w n e d = let h : f x ≡ f v = ap f (some-injective x v e) in let g : f w ≤ total f xs = total_has xs j w d in omega arith
  total_two (x ∷ xs) (suc i) zero v w n e d = let h : f x ≡ f w = ap f (some-injective x w d) in let g : f v ≤ total f xs = total_has xs i v e in omega arith
  total_two (x ∷ xs) (suc i) (suc j) v w n e d = let h : f v + f w ≤ total f xs = total_two xs i j v w (λ s. n (ap suc s)) e d in omega arith

-- a sum of less is less
pub total_le : {A : Type 0} (f g : A → ℕ) (vs : List A) → ((i : ℕ) (v : A) → get_elem? vs i ≡ some v → f v ≤ g v) → total f vs ≤ total g vs
total_le f g [] h = omega arith
total_le f g (x ∷ xs) h = let a : f x ≤ g x = h 0 x refl in let b : total f xs ≤ total g xs = total_le f g xs (λ i. h (suc i)) in omega arith

pub times_numbers : (k from n : ℕ) → times k (numbers_from from n) ≡ inside from (from + n) k
times_numbers k from zero = grind (arith, nat_tests)
times_numbers k from (suc n) =
    let h : times k (numbers_from (from + 1) n) ≡ inside (from + 1) (from + 1 + n) k = times_numbers k (from + 1) n in
    let e : inside (from + 1) (from + 1 + n) k ≡ inside (from + 1) (from + suc n) k = ap (λ (to : ℕ). inside (from + 1) to k) (omega arith) in
    let f : inside (from + 1) (from + suc n) k + one k from ≡ inside from (from + suc n) k = inside_first from (from + suc n) k (omega arith) in
    omega arith

pub length-numbers : (from n : ℕ) → length (numbers_from from n) ≡ n
length-numbers from zero = refl
length-numbers from (suc n) = ap suc (length-numbers (from + 1) n)
