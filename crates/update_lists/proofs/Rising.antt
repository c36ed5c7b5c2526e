-- Rising lists of ids.
use Rattle.std.proofs.Common.{◌≡◌, ℕ, ◌<◌, Bool, true, false, cond, ◌||◌, ◌==◌, nat_eq, nat_lt, List, [], ◌∷◌, ◌++◌, refl, sym, ◌∙◌, ap, subst, ⊎_elim, arith}
use Rattle.std.proofs.lemmas.Bool.{false≢true, cases_lt, ltb-true}
use Rattle.std.proofs.lemmas.Bool.Decides.{nat_tests}
use Rattle.std.proofs.lemmas.List.Sorted.{IsNonDecreasingBy-from_sort, list_any-IsPermutation}
use Rattle.std.proofs.lemmas.Map.Keys.{IsDistinct-IsPermutation, IsDistinct-cons, IsStrictlyIncreasing-from_distinct, sorted_from_strictly_increasing, sorted_head, sorted_tail}
use Rattle.std.specs.List.{AllByRecursion, IsDistinct}
use Rattle.std.specs.List.Sorted.{IsPermutation, IsSorted, IsStrictlySortedBy}
use Rattle.std.specs.Ordering.{nat_cmp}
use Rattle.std.specs.declared.cmp.Ordering.TheVariants.{Less}
use Rattle.pf_model.specs.Limits.{IsRising}
use Rattle.pf_model.specs.Copies.{put_in, put_all}
use Rattle.pf_model.proofs.Levels.{all_map}
use Rattle.update_lists.specs.Marks.{among}

less : (a b : ℕ) → nat_lt a b ≡ false → (b == a) ≡ false → b < a
less a b h k = grind (arith, nat_tests)

apart : (a b : ℕ) → a < b → nat_eq a b ≡ false
apart a b l = grind (arith, nat_tests)

same_id : (a b : ℕ) → nat_eq a b ≡ true → a ≡ b
same_id a b h = grind (arith, nat_tests)

pub itself : (a : ℕ) → nat_eq a a ≡ true
itself a = grind (arith, nat_tests)

pub flips : (a b : ℕ) → nat_eq a b ≡ nat_eq b a
flips a b = grind (arith, nat_tests)

from_less : (a b : ℕ) → nat_cmp a b ≡ Less → a < b
from_less a b h = grind (arith, nat_tests)

or_false : (a b : Bool) → a ≡ false → b ≡ false → (a || b) ≡ false
or_false true b h k = h
or_false false b h k = k

or_nothing : (a : Bool) → (a || false) ≡ a
or_nothing true = refl
or_nothing false = refl

or_swap : (a b c : Bool) → (a || (b || c)) ≡ (b || (a || c))
or_swap true true c = refl
or_swap true false c = refl
or_swap false b c = refl

or_again : (a c : Bool) → (a || c) ≡ (a || (a || c))
or_again true c = refl
or_again false c = refl

or_move : (a b c : Bool) → (a || (b || c)) ≡ ((b || a) || c)
or_move true true c = refl
or_move true false c = refl
or_move false true c = refl
or_move false false c = refl

-- Numbers put in

above_put : (m x : ℕ) (ys : List ℕ) → m < x → AllByRecursion (λ y. m < y) ys → AllByRecursion (λ y. m < y) (put_in x ys)
above_put m x [] l h = (l, tt)
above_put m x (y ∷ ys) l h = by (nat_lt x y) (y == x) (above_put m x ys l h.1)
  where
    by : (t u : Bool) → AllByRecursion (λ y. m < y) (put_in x ys) → AllByRecursion (λ y. m < y) (cond t (x ∷ y ∷ ys) (cond u (y ∷ ys) (y ∷ put_in x ys)))
    by true u rest = (l, h)
    by false true rest = h
    by false false rest = (h.0, rest)

pub put_in_rising : (x : ℕ) (ys : List ℕ) → IsRising ys → IsRising (put_in x ys)
put_in_rising x [] rising = (tt, tt)
put_in_rising x (y ∷ ys) rising = by (nat_lt x y) (y == x) refl refl (put_in_rising x ys rising.1)
  where
    by : (t u : Bool) → nat_lt x y ≡ t → (y == x) ≡ u → IsRising (put_in x ys) → IsRising (cond t (x ∷ y ∷ ys) (cond u (y ∷ ys) (y ∷ put_in x ys)))
    by true u et eu rest = let l : x < y = ltb-true x y et in ((l, all_map (λ z. y < z) (λ z. x < z) (λ z k. omega (arith, k, l)) ys rising.0), rising)
    by false true et eu rest = rising
    by false false et eu rest = (above_put y x ys (less x y et eu) rising.0, rest)

pub put_all_rising : (xs ys : List ℕ) → IsRising ys → IsRising (put_all xs ys)
put_all_rising [] ys rising = rising
put_all_rising (x ∷ xs) ys rising = put_all_rising xs (put_in x ys) (put_in_rising x ys rising)

pub put_all_push : (xs ys : List ℕ) (x : ℕ) → put_all (xs ++ x ∷ []) ys ≡ put_in x (put_all xs ys)
put_all_push [] ys x = refl
put_all_push (z ∷ xs) ys x = put_all_push xs (put_in z ys) x

among_put_in : (q x : ℕ) (ys : List ℕ) → among q (put_in x ys) ≡ (nat_eq q x || among q ys)
among_put_in q x [] = refl
among_put_in q x (y ∷ ys) = by (nat_lt x y) (y == x) refl (among_put_in q x ys)
  where
    by : (t u : Bool) → (y == x) ≡ u → among q (put_in x ys) ≡ (nat_eq q x || among q ys) →
        among q (cond t (x ∷ y ∷ ys) (cond u (y ∷ ys) (y ∷ put_in x ys))) ≡ (nat_eq q x || (nat_eq q y || among q ys))
    by true u e rest = refl
    by false true e rest = rw (same_id y x e) (or_again (nat_eq q x) (among q ys))
    by false false e rest = ap (λ b. nat_eq q y || b) rest ∙ or_swap (nat_eq q y) (nat_eq q x) (among q ys)

pub among_put_all : (q : ℕ) (xs ys : List ℕ) → among q (put_all xs ys) ≡ (among q xs || among q ys)
among_put_all q [] ys = refl
among_put_all q (x ∷ xs) ys =
    among_put_all q xs (put_in x ys) ∙ ap (λ b. among q xs || b) (among_put_in q x ys) ∙ or_move (among q xs) (nat_eq q x) (among q ys)

pub among_put : (q : ℕ) (xs : List ℕ) → among q (put_all xs []) ≡ among q xs
among_put q xs = among_put_all q xs [] ∙ or_nothing (among q xs)

none_below : (x : ℕ) (ys : List ℕ) → AllByRecursion (λ y. x < y) ys → among x ys ≡ false
none_below x [] h = refl
none_below x (y ∷ ys) h = or_false (nat_eq x y) (among x ys) (apart x y h.0) (none_below x ys h.1)

below_all : (x y : ℕ) (ys : List ℕ) → x < y → AllByRecursion (λ z. y < z) ys → AllByRecursion (λ z. x < z) (y ∷ ys)
below_all x y ys l h = (l, all_map (λ z. y < z) (λ z. x < z) (λ z k. omega (arith, k, l)) ys h)

pub put_in_again : (x : ℕ) (ys : List ℕ) → IsRising ys → among x ys ≡ true → put_in x ys ≡ ys
put_in_again x [] rising h = absurd (false≢true h)
put_in_again x (y ∷ ys) rising h = by (nat_lt x y) (y == x) refl refl (put_in_again x ys rising.1)
  where
    by : (t u : Bool) → nat_lt x y ≡ t → (y == x) ≡ u → (among x ys ≡ true → put_in x ys ≡ ys) → cond t (x ∷ y ∷ ys) (cond u (y ∷ ys) (y ∷ put_in x ys)) ≡ y ∷ ys
    by true u et eu rest = absurd (false≢true (sym (none_below x (y ∷ ys) (below_all x y ys (ltb-true x y et) rising.0)) ∙ h))
    by false true et eu rest = refl
    by false false et eu rest =
        let not_head : nat_eq x y ≡ false = flips x y ∙ eu in
        ap (λ zs. y ∷ zs) (rest (sym (ap (λ b. b || among x ys) not_head) ∙ h))

-- Rising lists with the same members are the same

there : (x : ℕ) (xs : List ℕ) → among x (x ∷ xs) ≡ true
there x xs = ap (λ b. b || among x xs) (itself x)

tails : (x : ℕ) (xs ys : List ℕ) → AllByRecursion (λ y. x < y) xs → AllByRecursion (λ y. x < y) ys → ((q : ℕ) → among q (x ∷ xs) ≡ among q (x ∷ ys)) → (q : ℕ) → among q xs ≡ among q ys
tails x xs ys ax ay same q = by (nat_eq q x) refl (same q)
  where
    by : (t : Bool) → nat_eq q x ≡ t → (t || among q xs) ≡ (t || among q ys) → among q xs ≡ among q ys
    by false e h = h
    by true e h = rw (same_id q x e) (none_below x xs ax ∙ sym (none_below x ys ay))

pub rising_same : (xs ys : List ℕ) → IsRising xs → IsRising ys → ((q : ℕ) → among q xs ≡ among q ys) → xs ≡ ys
rising_same [] [] rx ry same = refl
rising_same [] (y ∷ ys) rx ry same = absurd (false≢true (same y ∙ there y ys))
rising_same (x ∷ xs) [] rx ry same = absurd (false≢true (sym (same x) ∙ there x xs))
rising_same (x ∷ xs) (y ∷ ys) rx ry same =
    ⊎_elim
    (λ l. absurd (false≢true (sym (none_below x (y ∷ ys) (below_all x y ys l ry.0)) ∙ sym (same x) ∙ there x xs)))
    (λ ge. ⊎_elim
    (λ l. absurd (false≢true (sym (none_below y (x ∷ xs) (below_all y x xs l rx.0)) ∙ same y ∙ there y ys)))
    (λ le. equal (omega (arith, ge, le)) (λ same'. rising_same xs ys rx.1 ry.1 same'))
    (cases_lt y x))
    (cases_lt x y)
  where
    equal : x ≡ y → (((q : ℕ) → among q xs ≡ among q ys) → xs ≡ ys) → x ∷ xs ≡ y ∷ ys
    equal e rest =
        let same' : (q : ℕ) → among q (x ∷ xs) ≡ among q (x ∷ ys) = λ q. same q ∙ ap (λ z. among q (z ∷ ys)) (sym e) in
        let above : AllByRecursion (λ z. x < z) ys = subst (λ w. AllByRecursion (λ z. w < z) ys) (sym e) ry.0 in
        ap (λ zs. x ∷ zs) (rest (tails x xs ys rx.0 above same')) ∙ ap (λ z. z ∷ ys) e

rising_from_sorted : (xs : List ℕ) → IsStrictlySortedBy nat_cmp xs → IsRising xs
rising_from_sorted [] s = tt
rising_from_sorted (x ∷ xs) s =
    (all_map (λ y. nat_cmp x y ≡ Less) (λ y. x < y) (λ y h. from_less x y h) xs (sorted_head nat_cmp x xs s), rising_from_sorted xs (sorted_tail nat_cmp x xs s))

-- a sort of ids that differ
pub sorted_is_put : (xs ys : List ℕ) → IsDistinct nat_eq xs → IsPermutation xs ys → IsSorted nat_cmp ys → ys ≡ put_all xs []
sorted_is_put xs ys once moved sorted =
    let once' = IsDistinct-IsPermutation nat_eq flips xs ys moved once in
    let rises = IsStrictlyIncreasing-from_distinct ys (IsNonDecreasingBy-from_sort (λ x. x) ys sorted) once' in
    rising_same ys (put_all xs []) (rising_from_sorted ys (sorted_from_strictly_increasing ys rises)) (put_all_rising xs [] tt)
    (λ q. sym (list_any-IsPermutation (nat_eq q) xs ys moved) ∙ sym (among_put q xs))

once_none : IsDistinct nat_eq []
unfolding IsDistinct
once_none = tt

pub rising_once : (xs : List ℕ) → IsRising xs → IsDistinct nat_eq xs
rising_once [] r = once_none
rising_once (x ∷ xs) r = IsDistinct-cons nat_eq x xs (all_map (λ y. x < y) (λ y. nat_eq x y ≡ false) (λ y h. apart x y h) xs r.0) (rising_once xs r.1)

-- a rising list is what putting its numbers in gives
pub put_rising : (xs : List ℕ) → IsRising xs → put_all xs [] ≡ xs
put_rising xs r = rising_same (put_all xs []) xs (put_all_rising xs [] tt) r (λ q. among_put q xs)
