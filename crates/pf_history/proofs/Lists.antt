-- What holds of each element of a list, and the elements of its front.
use Rattle.std.proofs.Common.{◌≡◌, ℕ, suc, zero, ◌≤◌, Bool, true, false, cond, List, [], ◌∷◌, ◌++◌, drop, slice_get, Some, arith, subst}
use Rattle.std.proofs.lemmas.Option.{same_Some}
use Rattle.std.specs.List.{AllByRecursion, filter}

pub all_append : {X : Type 0} (P : X → Type 0) (xs ys : List X) → AllByRecursion P xs → AllByRecursion P ys → AllByRecursion P (xs ++ ys)
all_append P [] ys h k = k
all_append P (x ∷ xs) ys h k = (h.0, all_append P xs ys h.1 k)

pub all_filter : {X : Type 0} (P : X → Type 0) (test : X → Bool) (xs : List X) → AllByRecursion P xs → AllByRecursion P (filter test xs)
all_filter P test [] h = tt
all_filter P test (x ∷ xs) h = by (test x) (all_filter P test xs h.1)
  where
    by : (t : Bool) → AllByRecursion P (filter test xs) → AllByRecursion P (cond t (x ∷ filter test xs) (filter test xs))
    by true rest = (h.0, rest)
    by false rest = rest

pub all_drop : {X : Type 0} (P : X → Type 0) (r : ℕ) (xs : List X) → AllByRecursion P xs → AllByRecursion P (drop r xs)
all_drop P zero xs h = h
all_drop P (suc r) [] h = tt
all_drop P (suc r) (x ∷ xs) h = all_drop P r xs h.1

-- what holds of each element behind the first r holds of the one at a place from r on
pub all_drop_at : {X : Type 0} (P : X → Type 0) (r : ℕ) (xs : List X) → AllByRecursion P (drop r xs) → (k : ℕ) (x : X) → slice_get xs k ≡ Some x → r ≤ k → P x
all_drop_at P r [] h k x at l = absurd (cc)
all_drop_at P zero (y ∷ xs) h zero x at l = subst P (same_Some y x at) h.0
all_drop_at P zero (y ∷ xs) h (suc k) x at l = all_drop_at P zero xs h.1 k x at (omega arith)
all_drop_at P (suc r) (y ∷ xs) h zero x at l = absurd (omega arith)
all_drop_at P (suc r) (y ∷ xs) h (suc k) x at l = all_drop_at P r xs h k x at (omega arith)

-- an element of a list stays where more follow
pub get_front : {X : Type 0} (xs ys : List X) (k : ℕ) (x : X) → slice_get xs k ≡ Some x → slice_get (xs ++ ys) k ≡ Some x
get_front [] ys k x at = absurd (cc)
get_front (y ∷ xs) ys zero x at = at
get_front (y ∷ xs) ys (suc k) x at = get_front xs ys k x at
