-- The threads for which seats answer, the words of items, and lists read by place.
use Rattle.std.proofs.Common.{Bool, false, ◌≡◌, ◌≢◌, ℕ, zero, suc, ◌+◌, ◌<◌, ◌≤◌, ◌⊎◌, inl, inr, ⊎_elim, List, [], ◌∷◌, ◌++◌, length, get_or, set, replicate, map, refl, sym, ap, ◌∙◌, subst, arith, Some}
use Rattle.std.specs.Prelude.{slice_get}
use Rattle.std.proofs.lemmas.List.{get_or-set_same, get_or-set_other}
use Rattle.std.proofs.lemmas.Option.{none-some, same_Some}
use mathlib.Core.Option.{none, some, some-injective, some-ne-none}
use mathlib.Core.Logic.{dite}
use native.Mathlib.Decide.{ℕ_discrete}
use lib.ListN.{get_elem?}
use Rattle.self_scheduling.specs.declared.view.View.{View}
use Rattle.self_scheduling.specs.Claims.{threads_of}

module _ {A : Type 0} where
  pub found : (l : List A) (i : ℕ) → i < length l → (a : A) × (get_elem? l i ≡ some a)
  found [] i h = absurd (omega arith)
  found (x ∷ xs) zero h = (x, refl)
  found (x ∷ xs) (suc i) h = found xs i (omega arith)

  pub within : (l : List A) (i : ℕ) (a : A) → get_elem? l i ≡ some a → i < length l
  within [] i a e = absurd (some-ne-none a (sym e))
  within (x ∷ xs) zero a e = omega arith
  within (x ∷ xs) (suc i) a e = let h = within xs i a e in omega arith

  pub get_found : (l : List A) (i : ℕ) → i < length l → (a : A) × (slice_get l i ≡ Some a)
  get_found [] i h = absurd (omega arith)
  get_found (x ∷ xs) zero h = (x, refl)
  get_found (x ∷ xs) (suc i) h = get_found xs i (omega arith)

  get_snoc : (l : List A) (a b : A) (j : ℕ) → slice_get (l ++ a ∷ []) j ≡ Some b → (slice_get l j ≡ Some b) ⊎ ((j ≡ length l) × (a ≡ b))
  get_snoc [] a b zero e = inr (refl, same_Some a b e)
  get_snoc [] a b (suc j) e = absurd (none-some b e)
  get_snoc (x ∷ xs) a b zero e = inl e
  get_snoc (x ∷ xs) a b (suc j) e = ⊎_elim (λ h. inl h) (λ t. inr (ap suc t.0, t.1)) (get_snoc xs a b j e)

  pub get_within : (l : List A) (i : ℕ) (a : A) → slice_get l i ≡ Some a → i < length l
  get_within [] i a e = absurd (none-some a e)
  get_within (x ∷ xs) zero a e = omega arith
  get_within (x ∷ xs) (suc i) a e = let h = get_within xs i a e in omega arith

-- a word that is set is not 0, and the others stay
pub word_here : (words : List ℕ) (k : ℕ) → k < length words → get_or (set words k 1) k 0 ≢ 0
word_here words k h e = let one : get_or (set words k 1) k 0 ≡ 1 = get_or-set_same words k 1 0 h in omega (arith, e, one)

pub word_kept : (words : List ℕ) (k j : ℕ) → k < length words → get_or words j 0 ≢ 0 → get_or (set words k 1) j 0 ≢ 0
word_kept words k j h n = dite (ℕ_discrete j k)
    (λ (same : j ≡ k). subst (λ i. get_or (set words k 1) i 0 ≢ 0) (sym same) (word_here words k h))
    (λ other e. n (sym (get_or-set_other words k j 1 0 other) ∙ e))

pub word_zero : (words : List ℕ) (k j : ℕ) → k < length words → get_or (set words k 1) j 0 ≡ 0 → (j ≢ k) × (get_or words j 0 ≡ 0)
word_zero words k j h e =
    let other : j ≢ k = λ same. word_here words k h (ap (λ i. get_or (set words k 1) i 0) (sym same) ∙ e) in
    (other, sym (get_or-set_other words k j 1 0 other) ∙ e)

pub word_was : (words : List ℕ) (k j : ℕ) → j ≢ k → get_or (set words k 1) j 0 ≢ 0 → get_or words j 0 ≢ 0
word_was words k j other n e = n (get_or-set_other words k j 1 0 other ∙ e)

pub threads_set : (views : List View) (id : ℕ) (v w : View) → get_elem? views id ≡ some v
    → threads_of (set views id w) + v.threads ≡ threads_of views + w.threads
threads_set [] id v w e = absurd (some-ne-none v (sym e))
threads_set (x ∷ xs) zero v w e = let same : x.threads ≡ v.threads = ap (λ (u : View). u.threads) (some-injective x v e) in omega (arith, same)
threads_set (x ∷ xs) (suc id) v w e = let h = threads_set xs id v w e in omega (arith, h)

pub threads_snoc : (views : List View) (w : View) → threads_of (views ++ w ∷ []) ≡ threads_of views + w.threads
threads_snoc [] w = omega arith
threads_snoc (x ∷ xs) w = let h = threads_snoc xs w in omega (arith, h)

pub threads_at : (views : List View) (id : ℕ) (v : View) → get_elem? views id ≡ some v → v.threads ≤ threads_of views
threads_at [] id v e = absurd (some-ne-none v (sym e))
threads_at (x ∷ xs) zero v e = let same : x.threads ≡ v.threads = ap (λ (u : View). u.threads) (some-injective x v e) in omega (arith, same)
threads_at (x ∷ xs) (suc id) v e = let h = threads_at xs id v e in omega (arith, h)

-- two seats answer for no more than all do
pub threads_two : (views : List View) (id other : ℕ) (v w : View) → id ≢ other → get_elem? views id ≡ some v → get_elem? views other ≡ some w
    → v.threads + w.threads ≤ threads_of views
threads_two [] id other v w n e f = absurd (some-ne-none v (sym e))
threads_two (x ∷ xs) zero zero v w n e f = absurd (n refl)
threads_two (x ∷ xs) zero (suc other) v w n e f =
    let same : x.threads ≡ v.threads = ap (λ (u : View). u.threads) (some-injective x v e) in
    let h = threads_at xs other w f in omega (arith, same, h)
threads_two (x ∷ xs) (suc id) zero v w n e f =
    let same : x.threads ≡ w.threads = ap (λ (u : View). u.threads) (some-injective x w f) in
    let h = threads_at xs id v e in omega (arith, same, h)
threads_two (x ∷ xs) (suc id) (suc other) v w n e f =
    let h = threads_two xs id other v w (λ same. n (ap suc same)) e f in omega (arith, h)

module _ {A : Type 0} where
  pub home_at : (l : List A) (i : ℕ) (a : A) → slice_get l i ≡ Some a → get_elem? (map some l) i ≡ some (some a)
  home_at [] i a e = absurd (none-some a e)
  home_at (x ∷ xs) zero a e = ap (λ y. some (some y)) (same_Some x a e)
  home_at (x ∷ xs) (suc i) a e = home_at xs i a e

  pub at_home : (l : List A) (i : ℕ) → get_elem? (map some l) i ≢ some none
  at_home [] i e = some-ne-none none (sym e)
  at_home (x ∷ xs) zero e = some-ne-none x (some-injective (some x) none e)
  at_home (x ∷ xs) (suc i) e = at_home xs i e

  pub only : (a : A) (i : ℕ) (b : A) → get_elem? (a ∷ []) i ≡ some b → a ≡ b
  only a zero b e = some-injective a b e
  only a (suc i) b e = absurd (some-ne-none b (sym e))

zeros : (n k : ℕ) → ◌≡◌ {A = ℕ} (get_or (replicate n 0) k 0) 0
zeros zero k = refl
zeros (suc n) zero = refl
zeros (suc n) (suc k) = zeros n k

pub all_unset : (words : List ℕ) (n k : ℕ) → words ≡ replicate n 0 → get_or words k 0 ≡ 0
all_unset words n k are = ap (λ ws. get_or ws k 0) are ∙ zeros n k

-- the value of the slot that a seat took last
abbrev value_of : {A : Type 0} → A → List (ℕ × A) → A
value_of d [] = d
value_of d (x ∷ xs) = x.1

pub same_value : {A : Type 0} (k : ℕ) (x y : A) (mine others : List (ℕ × A)) → mine ≡ (k, x) ∷ [] → mine ≡ (k, y) ∷ others → x ≡ y
same_value k x y mine others e f = ap (value_of x) (sym e ∙ f)

-- the element at a place, whatever is read where there is none
pub get_read : {A : Type 0} (l : List A) (i : ℕ) (a d : A) → slice_get l i ≡ Some a → get_or l i d ≡ a
get_read [] i a d e = absurd (none-some a e)
get_read (x ∷ xs) zero a d e = same_Some x a e
get_read (x ∷ xs) (suc i) a d e = get_read xs i a d e

pub emptied : (fs : List Bool) (k : ℕ) → get_or (set fs k false) k false ≡ false
emptied [] k = refl
emptied (x ∷ xs) zero = refl
emptied (x ∷ xs) (suc k) = emptied xs k

-- one more item behind others that are those of a list
pub gathered_more : {A : Type 0} (l m : List A) (k : ℕ) (a : A) → length l ≡ k → get_elem? m k ≡ some a
    → ((j : ℕ) (y : A) → slice_get l j ≡ Some y → get_elem? m j ≡ some y)
    → (j : ℕ) (y : A) → slice_get (l ++ a ∷ []) j ≡ Some y → get_elem? m j ≡ some y
gathered_more l m k a size at each j y is = ⊎_elim
    (λ (e : slice_get l j ≡ Some y). each j y e)
    (λ (e : (j ≡ length l) × (a ≡ y)). ap (get_elem? m) (e.0 ∙ size) ∙ at ∙ ap some e.1)
    (get_snoc l a y j is)
