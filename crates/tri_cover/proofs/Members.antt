-- Members of lists.
use Rattle.std.proofs.Common.{◌≡◌, zero, suc, ◌≤◌, List, [], ◌∷◌, ◌++◌, length, Bool, true, false, cond, refl, ap, sym, ◌∙◌, subst, arith, inl, inr, ⊎_elim, ◌⊎◌}
use Rattle.std.specs.Prelude.{filter, flat_map, count_by, Contains}
use Rattle.std.specs.List.Sorted.{IsPermutation}
use Rattle.std.proofs.lemmas.List.Sums.{length-filter}
use Rattle.std.proofs.lemmas.List.Sorted.{All-permutation, Contains-permutation, sum_by-IsPermutation}
use Rattle.std.proofs.lemmas.List.Elements.{All-contains, All-contains_itself}

-- x is an element of the list
abbrev pub In : {X : Type 0} → X → List X → Type 0
In x [] = ⊥
In x (y ∷ ys) = (y ≡ x) ⊎ In x ys

pub in_from_contains : {X : Type 0} (x : X) (xs : List X) → Contains xs x → In x xs
in_from_contains x [] (k, l, e) = omega (arith, l)
in_from_contains x (y ∷ ys) (zero, l, e) = inl e
in_from_contains x (y ∷ ys) (suc k, l, e) = inr (in_from_contains x ys (k, omega (arith, l), e))

pub contains_from_in : {X : Type 0} (x : X) (xs : List X) → In x xs → Contains xs x
contains_from_in x [] m = absurd m
contains_from_in {X} x (y ∷ ys) (inl e) = (0, omega arith, e)
contains_from_in {X} x (y ∷ ys) (inr m) = later (contains_from_in x ys m)
  where
    later : Contains ys x → Contains (y ∷ ys) x
    later (k, l, e) = (suc k, omega (arith, l), e)

pub in_permutation : {X : Type 0} (x : X) (xs ys : List X) → IsPermutation xs ys → In x xs → In x ys
in_permutation x xs ys p m = in_from_contains x ys (Contains-permutation xs ys x p (contains_from_in x xs m))

pub in_permuted : {X : Type 0} (x : X) (xs ys : List X) → IsPermutation xs ys → In x ys → In x xs
in_permuted x xs ys p m = in_from_contains x xs (All-contains (Contains xs) ys x (All-permutation (Contains xs) xs ys p (All-contains_itself xs)) (contains_from_in x ys m))

pub in_filter : {X : Type 0} (p : X → Bool) (x : X) (xs : List X) → In x xs → p x ≡ true → In x (filter p xs)
in_filter p x [] m ok = m
in_filter {X} p x (y ∷ ys) (inl e) ok = by (p y) (ap p e ∙ ok)
  where
    by : (t : Bool) → t ≡ true → In x (cond t (y ∷ filter p ys) (filter p ys))
    by true h = inl e
    by false h = cc
in_filter {X} p x (y ∷ ys) (inr m) ok = by (p y) (in_filter p x ys m ok)
  where
    by : (t : Bool) → In x (filter p ys) → In x (cond t (y ∷ filter p ys) (filter p ys))
    by true later = inr later
    by false later = later

pub filter_in : {X : Type 0} (p : X → Bool) (x : X) (xs : List X) → In x (filter p xs) → In x xs × (p x ≡ true)
filter_in p x [] m = absurd m
filter_in {X} p x (y ∷ ys) m = by (p y) refl (filter_in p x ys) m
  where
    by : (t : Bool) → t ≡ p y → (In x (filter p ys) → In x ys × (p x ≡ true)) → In x (cond t (y ∷ filter p ys) (filter p ys)) → In x (y ∷ ys) × (p x ≡ true)
    by true e later (inl same) = (inl same, ap p (sym same) ∙ sym e)
    by true e later (inr n) = (inr (later n).0, (later n).1)
    by false e later n = (inr (later n).0, (later n).1)

in_append_left : {X : Type 0} (x : X) (xs ys : List X) → In x xs → In x (xs ++ ys)
in_append_left x [] ys m = absurd m
in_append_left x (z ∷ zs) ys (inl e) = inl e
in_append_left x (z ∷ zs) ys (inr m) = inr (in_append_left x zs ys m)

in_append_right : {X : Type 0} (x : X) (xs ys : List X) → In x ys → In x (xs ++ ys)
in_append_right x [] ys m = m
in_append_right x (z ∷ zs) ys m = inr (in_append_right x zs ys m)

in_append_cases : {X : Type 0} (x : X) (xs ys : List X) → In x (xs ++ ys) → In x xs ⊎ In x ys
in_append_cases x [] ys m = inr m
in_append_cases x (z ∷ zs) ys (inl e) = inl (inl e)
in_append_cases x (z ∷ zs) ys (inr m) = ⊎_elim (λ l. inl (inr l)) (λ r. inr r) (in_append_cases x zs ys m)

pub in_flat_map : {X Y : Type 0} (f : X → List Y) (y : Y) (x : X) (xs : List X) → In x xs → In y (f x) → In y (flat_map f xs)
in_flat_map f y x [] m n = absurd m
in_flat_map f y x (z ∷ zs) (inl e) n = in_append_left y (f z) (flat_map f zs) (subst (λ w. In y (f w)) (sym e) n)
in_flat_map f y x (z ∷ zs) (inr m) n = in_append_right y (f z) (flat_map f zs) (in_flat_map f y x zs m n)

-- where an element of a flat map comes from
pub record ComesFrom {X Y : Type 0} (f : X → List Y) (y : Y) (xs : List X) : Type 0 where
  pub source : X
  pub among : In source xs
  pub within : In y (f source)

pub flat_map_in : {X Y : Type 0} (f : X → List Y) (y : Y) (xs : List X) → In y (flat_map f xs) → ComesFrom f y xs
flat_map_in f y [] m = absurd m
flat_map_in {X} {Y} f y (x ∷ xs) m = ⊎_elim
    (λ here. record { source = x; among = inl refl; within = here })
    (λ there. later (flat_map_in f y xs there))
    (in_append_cases y (f x) (flat_map f xs) m)
  where
    later : ComesFrom f y xs → ComesFrom f y (x ∷ xs)
    later c = record { source = c.source; among = inr c.among; within = c.within }

-- ---- at most one element passes
one_of_short : {X : Type 0} (x y : X) (xs : List X) → length xs ≤ 1 → In x xs → In y xs → x ≡ y
one_of_short x y [] l m n = absurd m
one_of_short x y (z ∷ []) l (inl e) (inl d) = sym e ∙ d
one_of_short x y (z ∷ []) l (inl e) (inr n) = absurd n
one_of_short x y (z ∷ []) l (inr m) n = absurd m
one_of_short x y (z ∷ w ∷ ws) l m n = absurd (omega (arith, l))

same_short : {X : Type 0} (xs ys : List X) → length xs ≤ 1 → length ys ≤ 1 → ((x : X) → In x xs → In x ys) → ((x : X) → In x ys → In x xs) → xs ≡ ys
same_short [] [] l k f g = refl
same_short [] (y ∷ ys) l k f g = absurd (g y (inl refl))
same_short (x ∷ xs) [] l k f g = absurd (f x (inl refl))
same_short {X} (x ∷ []) (y ∷ []) l k f g = let e : x ≡ y = one_of_short x y (y ∷ []) k (f x (inl refl)) (inl refl) in ap (λ (z : X). z ∷ []) e
same_short (x ∷ []) (y ∷ z ∷ zs) l k f g = absurd (omega (arith, k))
same_short (x ∷ z ∷ zs) ys l k f g = absurd (omega (arith, l))

-- of two elements that pass, where at most one does
pub one_passes : {X : Type 0} (p : X → Bool) (x y : X) (xs : List X) → count_by p xs ≤ 1 → In x xs → In y xs → p x ≡ true → p y ≡ true → x ≡ y
one_passes p x y xs once m n px py =
    one_of_short x y (filter p xs) (subst (λ k. k ≤ 1) (sym (length-filter p xs)) once) (in_filter p x xs m px) (in_filter p y xs n py)

-- two lists of the same elements keep the same one
pub filter_once : {X : Type 0} (p : X → Bool) (xs ys : List X) → IsPermutation xs ys → count_by p xs ≤ 1 → filter p xs ≡ filter p ys
filter_once {X} p xs ys perm once = same_short (filter p xs) (filter p ys)
    (subst (λ k. k ≤ 1) (sym (length-filter p xs)) once)
    (subst (λ k. k ≤ 1) (sym (length-filter p ys ∙ sum_by-IsPermutation (λ x. cond (p x) 1 0) xs ys perm)) once)
    (λ x m. let h : In x xs × (p x ≡ true) = filter_in p x xs m in in_filter p x ys (in_permutation x xs ys perm h.0) h.1)
    (λ x m. let h : In x ys × (p x ≡ true) = filter_in p x ys m in in_filter p x xs (in_permuted x xs ys perm h.0) h.1)
