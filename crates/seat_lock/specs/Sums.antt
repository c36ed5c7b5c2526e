-- Counting: 0 or 1 for a fact on numbers, and sums over a list.
use Rattle.std.specs.Prelude.{ℕ, zero, suc, ◌+◌, ◌-◌, ◌==◌, nat_lt, if◌then◌else◌, List, [], ◌∷◌}

-- 1 where the two are one number
abbrev pub one : ℕ → ℕ → ℕ
one k x = if k == x then 1 else 0

-- 1 where k is below n
abbrev pub below : ℕ → ℕ → ℕ
below k n = if nat_lt k n then 1 else 0

-- 1 where k is one of the numbers from `from` on, below `to`
abbrev pub inside : ℕ → ℕ → ℕ → ℕ
inside from to k = below k to - below k from

-- f of each, added up
abbrev pub total : {A : Type 0} → (A → ℕ) → List A → ℕ
total f [] = 0
total f (x ∷ xs) = f x + total f xs

-- how often k stands in the list
abbrev pub times : ℕ → List ℕ → ℕ
times k xs = total (one k) xs

-- the n numbers from `from` on
abbrev pub numbers_from : ℕ → ℕ → List ℕ
numbers_from from zero = []
numbers_from from (suc n) = from ∷ numbers_from (from + 1) n
