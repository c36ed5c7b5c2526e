-- Lists read by `slice_get`, and the slots of a list.
use Rattle.std.proofs.Common.{◌≡◌, ◌≢◌, ℕ, zero, suc, ◌<◌, ◌⊎◌, inl, inr, ⊎_elim, Bool, true, false, eqb, cond, List, [], ◌∷◌, ◌++◌, map, length, set, replicate, refl, sym, ap, ◌∙◌, arith, eq-eqb, ne_eqb, Some}
use Rattle.std.specs.Prelude.{slice_get, ◌||◌}
use Rattle.std.proofs.lemmas.Option.{none-some, same_Some}
use mathlib.Core.Option.{some, some-injective, some-ne-none}
use mathlib.Core.Logic.{dite}
use native.Mathlib.Decide.{ℕ_discrete}
use lib.ListN.{get_elem?}
use Rattle.geo_lease.specs.Views.{has, without}

module _ {A : Type 0} where
  pub get_set : (l : List A) (i j : ℕ) (a b : A) → slice_get (set l i a) j ≡ Some b → ((j ≡ i) × (a ≡ b)) ⊎ ((j ≢ i) × (slice_get l j ≡ Some b))
  get_set [] i j a b e = absurd (none-some b e)
  get_set (x ∷ xs) zero zero a b e = inl (refl, same_Some a b e)
  get_set (x ∷ xs) zero (suc j) a b e = inr ((λ h. omega arith), e)
  get_set (x ∷ xs) (suc i) zero a b e = inr ((λ h. omega arith), e)
  get_set (x ∷ xs) (suc i) (suc j) a b e = ⊎_elim (λ t. inl (ap suc t.0, t.1)) (λ t. let n = t.0 in inr ((λ h. n (omega arith)), t.1)) (get_set xs i j a b e)

  pub get_here : (l : List A) (i : ℕ) (a : A) → i < length l → slice_get (set l i a) i ≡ Some a
  get_here [] i a h = absurd (omega arith)
  get_here (x ∷ xs) zero a h = refl
  get_here (x ∷ xs) (suc i) a h = get_here xs i a (omega arith)

  pub get_else : (l : List A) (i j : ℕ) (a : A) → j ≢ i → slice_get (set l i a) j ≡ slice_get l j
  get_else [] i j a n = refl
  get_else (x ∷ xs) zero zero a n = absurd (n refl)
  get_else (x ∷ xs) zero (suc j) a n = refl
  get_else (x ∷ xs) (suc i) zero a n = refl
  get_else (x ∷ xs) (suc i) (suc j) a n = get_else xs i j a (λ e. n (ap suc e))

  pub get_again : (l : List A) (i : ℕ) (a : A) → slice_get l i ≡ Some a → set l i a ≡ l
  get_again [] i a e = refl
  get_again (x ∷ xs) zero a e = λ k. sym (same_Some x a e) k ∷ xs
  get_again (x ∷ xs) (suc i) a e = λ k. x ∷ get_again xs i a e k

  pub get_longer : (l m : List A) (i : ℕ) (a : A) → slice_get l i ≡ Some a → slice_get (l ++ m) i ≡ Some a
  get_longer [] m i a e = absurd (none-some a e)
  get_longer (x ∷ xs) m zero a e = e
  get_longer (x ∷ xs) m (suc i) a e = get_longer xs m i a e

  pub get_last : (l : List A) (a : A) → slice_get (l ++ a ∷ []) (length l) ≡ Some a
  get_last [] a = refl
  get_last (x ∷ xs) a = get_last xs a

  pub get_snoc : (l : List A) (a b : A) (j : ℕ) → slice_get (l ++ a ∷ []) j ≡ Some b → (slice_get l j ≡ Some b) ⊎ ((j ≡ length l) × (a ≡ b))
  get_snoc [] a b zero e = inr (refl, same_Some a b e)
  get_snoc [] a b (suc j) e = absurd (none-some b e)
  get_snoc (x ∷ xs) a b zero e = inl e
  get_snoc (x ∷ xs) a b (suc j) e = ⊎_elim (λ h. inl h) (λ t. inr (ap suc t.0, t.1)) (get_snoc xs a b j e)

  pub get_found : (l : List A) (i : ℕ) → i < length l → (a : A) × (slice_get l i ≡ Some a)
  get_found [] i h = absurd (omega arith)
  get_found (x ∷ xs) zero h = (x, refl)
  get_found (x ∷ xs) (suc i) h = get_found xs i (omega arith)

  pub get_replicate : (n i : ℕ) (a b : A) → slice_get (replicate n a) i ≡ Some b → a ≡ b
  get_replicate zero i a b e = absurd (none-some b e)
  get_replicate (suc n) zero a b e = same_Some a b e
  get_replicate (suc n) (suc i) a b e = get_replicate n i a b e

  pub home_map : (l : List A) (i : ℕ) (a : A) → slice_get l i ≡ Some a → get_elem? (map some l) i ≡ some (some a)
  home_map [] i a e = absurd (none-some a e)
  home_map (x ∷ xs) zero a e = ap (λ (y : A). some (some y)) (same_Some x a e)
  home_map (x ∷ xs) (suc i) a e = home_map xs i a e

  pub only_one : (i : ℕ) (u v : A) → get_elem? (u ∷ []) i ≡ some v → (i ≡ 0) × (u ≡ v)
  only_one zero u v e = (refl, some-injective u v e)
  only_one (suc i) u v e = absurd (some-ne-none v (sym e))

  -- f of the first pair
  abbrev pub at_first : {B : Type 0} → (ℕ → A → B) → B → List (ℕ × A) → B
  at_first f b [] = b
  at_first f b (x ∷ xs) = f x.0 x.1

pub not_true : (b : Bool) → (b ≡ true → ⊥) → b ≡ false
not_true true h = absurd (h refl)
not_true false h = refl

-- the slot k is among k and others, and any other is where it was among the others
pub has_here : (k : ℕ) (xs : List ℕ) → has k (k ∷ xs) ≡ true
has_here k xs = ap (λ b. b || has k xs) (eq-eqb k k refl)

pub has_else : (j k : ℕ) (xs : List ℕ) → j ≢ k → has j (k ∷ xs) ≡ has j xs
has_else j k xs n = ap (λ b. b || has j xs) (ne_eqb k j (λ e. n (sym e)))

pub without_here : (k : ℕ) (xs : List ℕ) → has k (without k xs) ≡ false
without_here k [] = refl
without_here k (x ∷ xs) = dite (ℕ_discrete x k)
    (λ e. ap (λ b. has k (cond b (without k xs) (x ∷ without k xs))) (eq-eqb x k e) ∙ without_here k xs)
    (λ n. ap (λ b. has k (cond b (without k xs) (x ∷ without k xs))) (ne_eqb x k n) ∙ (has_else k x (without k xs) (λ e. n (sym e)) ∙ without_here k xs))

pub without_else : (j k : ℕ) (xs : List ℕ) → j ≢ k → has j (without k xs) ≡ has j xs
without_else j k [] n = refl
without_else j k (x ∷ xs) n = dite (ℕ_discrete x k)
    (λ e. ap (λ b. has j (cond b (without k xs) (x ∷ without k xs))) (eq-eqb x k e) ∙ (without_else j k xs n ∙ sym (has_else j x xs (λ h. n (h ∙ e)))))
    (λ ne. ap (λ b. has j (cond b (without k xs) (x ∷ without k xs))) (ne_eqb x k ne) ∙ ap (λ b. eqb x j || b) (without_else j k xs n))
