-- The stable sort of a list is the only list in order with the same elements, those that tie as they stood.
use Rattle.std.proofs.Common.{◌≡◌, ℕ, ◌+◌, ◌<◌, suc, Bool, true, false, cond, not, List, [], ◌∷◌, length, get_or, filter, refl, sym, ap, ◌∙◌, subst, arith, add-one}
use Rattle.std.proofs.lemmas.Bool.{both_ways, and_parts, not-true, false_from_ne_true}
use Rattle.std.specs.Prelude.{map}
use Rattle.std.specs.Cmp.{IsStrictWeakOrder}
use Rattle.std.specs.List.Sorted.{IsSortedBy, IsStableBy, ties}
use Rattle.tri_cover.specs.Sorting.{put_in, sorted}

-- no element of xs goes before x
abbrev pub NoneBefore : {X : Type 0} → (X → X → Bool) → X → List X → Type 0
NoneBefore lt x [] = Unit {0}
NoneBefore lt x (y ∷ ys) = (lt y x ≡ false) × NoneBefore lt x ys

-- none goes before one that stands earlier
abbrev pub Rises : {X : Type 0} → (X → X → Bool) → List X → Type 0
Rises lt [] = Unit {0}
Rises lt (x ∷ xs) = NoneBefore lt x xs × Rises lt xs

pub not_before_itself : {X : Type 0} (lt : X → X → Bool) → IsStrictWeakOrder lt → (x : X) → lt x x ≡ false
not_before_itself lt o x = false_from_ne_true (lt x x) (λ yes. both_ways (lt x x) (o.one_way x x yes) yes)

pub tied : {X : Type 0} (lt : X → X → Bool) (x y : X) → lt x y ≡ false → lt y x ≡ false → ties lt x y ≡ true
tied lt x y a b = rw (a, b)

pub ties_itself : {X : Type 0} (lt : X → X → Bool) → IsStrictWeakOrder lt → (x : X) → ties lt x x ≡ true
ties_itself lt o x = tied lt x x (not_before_itself lt o x) (not_before_itself lt o x)

pub tie_parts : {X : Type 0} (lt : X → X → Bool) (x y : X) → ties lt x y ≡ true → (lt x y ≡ false) × (lt y x ≡ false)
tie_parts lt x y t =
    let p : (not (lt x y) ≡ true) × (not (lt y x) ≡ true) = and_parts (not (lt x y)) (not (lt y x)) t in
    (not-true (lt x y) p.0, not-true (lt y x) p.1)

-- of two of which one goes before the other, not both tie with a third
not_both : {X : Type 0} (lt : X → X → Bool) → IsStrictWeakOrder lt → (k x y : X) → lt y x ≡ true → ties lt k x ≡ true → ties lt k y ≡ true → ⊥
not_both lt o k x y before kx ky =
    both_ways (lt y x) (o.chain y k x ((tie_parts lt k y ky).1) ((tie_parts lt k x kx).0)) before

-- two elements of which not both pass may change places under a filter
swapped : {X : Type 0} (p q : Bool) (x y : X) (fs : List X) → (p ≡ true → q ≡ true → ⊥) → cond q (y ∷ cond p (x ∷ fs) fs) (cond p (x ∷ fs) fs) ≡ cond p (x ∷ cond q (y ∷ fs) fs) (cond q (y ∷ fs) fs)
swapped true true x y fs apart = absurd (apart refl refl)
swapped true false x y fs apart = refl
swapped false true x y fs apart = refl
swapped false false x y fs apart = refl

-- putting x in only moves it past what does not tie with it
filter-put_in : {X : Type 0} (lt : X → X → Bool) → IsStrictWeakOrder lt → (k x : X) (ys : List X) → filter (ties lt k) (put_in lt x ys) ≡ filter (ties lt k) (x ∷ ys)
filter-put_in lt o k x [] = refl
filter-put_in {X} lt o k x (y ∷ ys) = by (lt y x) refl (filter-put_in lt o k x ys)
  where
    by : (t : Bool) → t ≡ lt y x → filter (ties lt k) (put_in lt x ys) ≡ filter (ties lt k) (x ∷ ys) → filter (ties lt k) (cond t (y ∷ put_in lt x ys) (x ∷ y ∷ ys)) ≡ filter (ties lt k) (x ∷ y ∷ ys)
    by true e rest = rw rest (swapped (ties lt k x) (ties lt k y) x y (filter (ties lt k) ys) (λ kx ky. not_both lt o k x y (sym e) kx ky))
    by false e rest = refl

pub filter-sorted : {X : Type 0} (lt : X → X → Bool) → IsStrictWeakOrder lt → (k : X) (xs : List X) → filter (ties lt k) (sorted lt xs) ≡ filter (ties lt k) xs
filter-sorted lt o k [] = refl
filter-sorted lt o k (x ∷ xs) = filter-put_in lt o k x (sorted lt xs) ∙ ap (λ fs. cond (ties lt k x) (x ∷ fs) fs) (filter-sorted lt o k xs)

-- what goes before none of xs and not before x, goes before none of them with x
none_before_put : {X : Type 0} (lt : X → X → Bool) (z x : X) (ys : List X) → lt x z ≡ false → NoneBefore lt z ys → NoneBefore lt z (put_in lt x ys)
none_before_put lt z x [] e n = (e, tt)
none_before_put lt z x (y ∷ ys) e n = by (lt y x) (none_before_put lt z x ys e n.1)
  where
    by : (t : Bool) → NoneBefore lt z (put_in lt x ys) → NoneBefore lt z (cond t (y ∷ put_in lt x ys) (x ∷ y ∷ ys))
    by true rest = (n.0, rest)
    by false rest = (e, n)

none_before_later : {X : Type 0} (lt : X → X → Bool) → IsStrictWeakOrder lt → (x y : X) (ys : List X) → lt y x ≡ false → NoneBefore lt y ys → NoneBefore lt x ys
none_before_later lt o x y [] e n = tt
none_before_later lt o x y (z ∷ zs) e n = (o.chain z y x n.0 e, none_before_later lt o x y zs e n.1)

rises_put : {X : Type 0} (lt : X → X → Bool) → IsStrictWeakOrder lt → (x : X) (ys : List X) → Rises lt ys → Rises lt (put_in lt x ys)
rises_put lt o x [] r = (tt, tt)
rises_put lt o x (y ∷ ys) r = by (lt y x) refl (rises_put lt o x ys r.1)
  where
    by : (t : Bool) → t ≡ lt y x → Rises lt (put_in lt x ys) → Rises lt (cond t (y ∷ put_in lt x ys) (x ∷ y ∷ ys))
    by true e rest = (none_before_put lt y x ys (o.one_way y x (sym e)) r.0, rest)
    by false e rest = ((sym e, none_before_later lt o x y ys (sym e) r.0), r)

pub rises_sorted : {X : Type 0} (lt : X → X → Bool) → IsStrictWeakOrder lt → (xs : List X) → Rises lt (sorted lt xs)
rises_sorted lt o [] = tt
rises_sorted lt o (x ∷ xs) = rises_put lt o x (sorted lt xs) (rises_sorted lt o xs)

-- ---- two lists in order that tie alike are one
-- the first that passes is not before what none of the list is before
none_before_passing : {X : Type 0} (lt : X → X → Bool) (p : X → Bool) (x y : X) (fs ys : List X) → NoneBefore lt y ys → filter p ys ≡ x ∷ fs → lt x y ≡ false
none_before_passing lt p x y fs [] n e = cc
none_before_passing {X} lt p x y fs (z ∷ zs) n e = by (p z) (none_before_passing lt p x y fs zs n.1) e
  where
    by : (t : Bool) → (filter p zs ≡ x ∷ fs → lt x y ≡ false) → cond t (z ∷ filter p zs) (filter p zs) ≡ x ∷ fs → lt x y ≡ false
    by true again e' = let same : z ≡ x = cc in subst (λ w. lt w y ≡ false) same n.0
    by false again e' = again e'

-- the first elements of two lists in order that tie alike
same_first : {X : Type 0} (lt : X → X → Bool) → IsStrictWeakOrder lt → (x y : X) (xs ys : List X) → NoneBefore lt x xs → NoneBefore lt y ys → filter (ties lt x) (x ∷ xs) ≡ filter (ties lt x) (y ∷ ys) → filter (ties lt y) (x ∷ xs) ≡ filter (ties lt y) (y ∷ ys) → x ≡ y
same_first {X} lt o x y xs ys nx ny ex ey = by (ties lt x y) refl (ties lt y x) refl
  where
    fx : x ∷ filter (ties lt x) xs ≡ cond (ties lt x y) (y ∷ filter (ties lt x) ys) (filter (ties lt x) ys)
    fx = subst (λ t. cond t (x ∷ filter (ties lt x) xs) (filter (ties lt x) xs) ≡ filter (ties lt x) (y ∷ ys)) (ties_itself lt o x) ex

    fy : cond (ties lt y x) (x ∷ filter (ties lt y) xs) (filter (ties lt y) xs) ≡ y ∷ filter (ties lt y) ys
    fy = subst (λ t. filter (ties lt y) (x ∷ xs) ≡ cond t (y ∷ filter (ties lt y) ys) (filter (ties lt y) ys)) (ties_itself lt o y) ey

    by : (t : Bool) → t ≡ ties lt x y → (u : Bool) → u ≡ ties lt y x → x ≡ y
    by true e u e' = let h : x ∷ filter (ties lt x) xs ≡ y ∷ filter (ties lt x) ys = subst (λ t. x ∷ filter (ties lt x) xs ≡ cond t (y ∷ filter (ties lt x) ys) (filter (ties lt x) ys)) (sym e) fx in cc
    by false e true e' = let h : x ∷ filter (ties lt y) xs ≡ y ∷ filter (ties lt y) ys = subst (λ t. cond t (x ∷ filter (ties lt y) xs) (filter (ties lt y) xs) ≡ y ∷ filter (ties lt y) ys) (sym e') fy in cc
    by false e false e' =
        let hx : x ∷ filter (ties lt x) xs ≡ filter (ties lt x) ys = subst (λ t. x ∷ filter (ties lt x) xs ≡ cond t (y ∷ filter (ties lt x) ys) (filter (ties lt x) ys)) (sym e) fx in
        let hy : filter (ties lt y) xs ≡ y ∷ filter (ties lt y) ys = subst (λ t. cond t (x ∷ filter (ties lt y) xs) (filter (ties lt y) xs) ≡ y ∷ filter (ties lt y) ys) (sym e') fy in
        let xy : lt x y ≡ false = none_before_passing lt (ties lt x) x y (filter (ties lt x) xs) ys ny (sym hx) in
        let yx : lt y x ≡ false = none_before_passing lt (ties lt y) y x (filter (ties lt y) ys) xs nx hy in
        absurd (both_ways (ties lt x y) (sym e) (tied lt x y xy yx))

same_rest : {X : Type 0} (t : Bool) (x : X) (fs gs : List X) → cond t (x ∷ fs) fs ≡ cond t (x ∷ gs) gs → fs ≡ gs
same_rest true x fs gs e = cc
same_rest false x fs gs e = e

pub rises_one : {X : Type 0} (lt : X → X → Bool) → IsStrictWeakOrder lt → (xs ys : List X) → Rises lt xs → Rises lt ys → ((k : X) → filter (ties lt k) xs ≡ filter (ties lt k) ys) → xs ≡ ys
rises_one lt o [] [] rx ry e = refl
rises_one lt o [] (y ∷ ys) rx ry e = let h : [] ≡ y ∷ filter (ties lt y) ys = subst (λ t. [] ≡ cond t (y ∷ filter (ties lt y) ys) (filter (ties lt y) ys)) (ties_itself lt o y) (e y) in cc
rises_one lt o (x ∷ xs) [] rx ry e = let h : x ∷ filter (ties lt x) xs ≡ [] = subst (λ t. cond t (x ∷ filter (ties lt x) xs) (filter (ties lt x) xs) ≡ []) (ties_itself lt o x) (e x) in cc
rises_one {X} lt o (x ∷ xs) (y ∷ ys) rx ry e = joined (rises_one lt o xs ys rx.1 ry.1 (λ k. same_rest (ties lt k x) x (filter (ties lt k) xs) (filter (ties lt k) ys) (e k ∙ ap (λ w. filter (ties lt k) (w ∷ ys)) (sym same))))
  where
    same : x ≡ y
    same = same_first lt o x y xs ys rx.0 ry.0 (e x) (e y)

    joined : xs ≡ ys → x ∷ xs ≡ y ∷ ys
    joined rest = let s : x ≡ y = same in cc

-- a list is in order where no element goes before its neighbour
pub rises_from_neighbours : {X : Type 0} (lt : X → X → Bool) → IsStrictWeakOrder lt → (xs : List X) → ((k : ℕ) (d : X) → suc k < length xs → lt (get_or xs (suc k) d) (get_or xs k d) ≡ false) → Rises lt xs
rises_from_neighbours lt o [] h = tt
rises_from_neighbours lt o (x ∷ []) h = (tt, tt)
rises_from_neighbours {X} lt o (x ∷ y ∷ ys) h = joined (rises_from_neighbours lt o (y ∷ ys) (λ k d l. h (suc k) d (omega arith)))
  where
    joined : Rises lt (y ∷ ys) → Rises lt (x ∷ y ∷ ys)
    joined r = let first : lt y x ≡ false = h 0 x (omega arith) in ((first, none_before_later lt o x y ys first r.0), r)

-- what a stable sort of std leaves is the sorted list
pub sorted_is : {X : Type 0} (lt : X → X → Bool) → IsStrictWeakOrder lt → (xs ys : List X) → IsSortedBy lt ys → IsStableBy lt xs ys → ys ≡ sorted lt xs
sorted_is lt o xs ys rises stable =
    rises_one lt o ys (sorted lt xs) (rises_from_neighbours lt o ys (λ k d l. let at : lt (get_or ys (k + 1) d) (get_or ys k d) ≡ false = rises k d (omega arith) (omega arith) in subst (λ n. lt (get_or ys n d) (get_or ys k d) ≡ false) (add-one k) at)) (rises_sorted lt o xs)
    (λ k. stable k ∙ sym (filter-sorted lt o k xs))

-- the same where a list was sorted by a test that answers alike
pub sorted_alike : {X : Type 0} (lt before : X → X → Bool) → ((x y : X) → lt x y ≡ before x y) → IsStrictWeakOrder before → (xs ys : List X) → IsSortedBy lt ys → IsStableBy lt xs ys → ys ≡ sorted before xs
sorted_alike {X} lt before alike o xs ys rises stable =
    sorted_is before o xs ys (subst (λ (l : X → X → Bool). IsSortedBy l ys) same rises) (subst (λ (l : X → X → Bool). IsStableBy l xs ys) same stable)
  where
    same : lt ≡ before
    same = λ i x y. alike x y i

-- a sort by what f makes of the elements
map-put_in : {X Y : Type 0} (before : Y → Y → Bool) (f : X → Y) (x : X) (xs : List X) → map f (put_in (λ a b. before (f a) (f b)) x xs) ≡ put_in before (f x) (map f xs)
map-put_in before f x [] = refl
map-put_in {X} {Y} before f x (y ∷ ys) = by (before (f y) (f x)) (map-put_in before f x ys)
  where
    by : (t : Bool) → map f (put_in (λ a b. before (f a) (f b)) x ys) ≡ put_in before (f x) (map f ys) → map f (cond t (y ∷ put_in (λ a b. before (f a) (f b)) x ys) (x ∷ y ∷ ys)) ≡ cond t (f y ∷ put_in before (f x) (map f ys)) (f x ∷ f y ∷ map f ys)
    by true rest = ap (λ (zs : List Y). f y ∷ zs) rest
    by false rest = refl

pub map-sorted : {X Y : Type 0} (before : Y → Y → Bool) (f : X → Y) (xs : List X) → map f (sorted (λ a b. before (f a) (f b)) xs) ≡ sorted before (map f xs)
map-sorted before f [] = refl
map-sorted {X} {Y} before f (x ∷ xs) = map-put_in before f x (sorted (λ a b. before (f a) (f b)) xs) ∙ ap (put_in before (f x)) (map-sorted before f xs)
