-- The order in which instances are drawn is an order, and the sort by it is in order.
use Rattle.std.proofs.Common.{◌≡◌, ◌∙◌, ℕ, zero, suc, ◌<◌, List, [], ◌∷◌, length, Bool, true, false, cond, not, ◌&&◌, ◌||◌, ap, sym, refl, subst, arith, get_or, add-one}
use Rattle.std.specs.Cmp.{IsStrictWeakOrder}
use Rattle.std.specs.List.Sorted.{IsPermutation, IsSortedBy}
use Rattle.std.proofs.lemmas.Bool.Decides.{nat_tests}
use Rattle.std.proofs.lemmas.List.Sorted.{IsPermutation-refl, IsPermutation-sym, IsPermutation-cons, IsPermutation-trans, IsPermutation-middle}
use Rattle.pf_model.specs.Walks.{Instance}
use Rattle.draw_list.specs.Order.{is_opaque, is_earlier, draw_order, put_in, in_draw_order}
use Rattle.tri_cover.specs.Sorting as sorting
use Rattle.tri_cover.proofs.Sorts.{Rises, rises_sorted}

earlier_one_way : (a p b q : ℕ) → is_earlier a p b q ≡ true → is_earlier b q a p ≡ false
earlier_one_way a p b q h = grind (arith, nat_tests)

earlier_chain : (a p b q c r : ℕ) → is_earlier a p b q ≡ false → is_earlier b q c r ≡ false → is_earlier a p c r ≡ false
earlier_chain a p b q c r h g = grind (arith, nat_tests)

farther_chain : (d p e q f r : ℕ) → is_earlier e p d q ≡ false → is_earlier f q e r ≡ false → is_earlier f p d r ≡ false
farther_chain d p e q f r h g = grind (arith, nat_tests)

-- the order of two instances, of which each is opaque or not
abbrev goes : (o w : Bool) → (earlier farther : Bool) → Bool
goes o w earlier farther = cond o (not w || earlier) (not w && farther)

one_way : (o w : Bool) (e f g h : Bool) → (e ≡ true → g ≡ false) → (f ≡ true → h ≡ false) → goes o w e f ≡ true → goes w o g h ≡ false
one_way true true e f g h k l m = k m
one_way true false e f g h k l m = refl
one_way false true e f g h k l m = absurd (cc)
one_way false false e f g h k l m = l m

chain : (o w z : Bool) (e f g h i j : Bool) → (e ≡ false → g ≡ false → i ≡ false) → (f ≡ false → h ≡ false → j ≡ false) → goes o w e f ≡ false → goes w z g h ≡ false → goes o z i j ≡ false
chain true true true e f g h i j k l m n = k m n
chain true true false e f g h i j k l m n = absurd (cc)
chain true false z e f g h i j k l m n = absurd (cc)
chain false true true e f g h i j k l m n = refl
chain false true false e f g h i j k l m n = absurd (cc)
chain false false true e f g h i j k l m n = refl
chain false false false e f g h i j k l m n = l m n

pub is_order : IsStrictWeakOrder draw_order
is_order = record {
  one_way = λ x y. one_way (is_opaque x) (is_opaque y) _ _ _ _ (earlier_one_way x.state x.place y.state y.place) (earlier_one_way y.far x.place x.far y.place);
  chain = λ x y z. chain (is_opaque x) (is_opaque y) (is_opaque z) _ _ _ _ _ _
      (earlier_chain x.state x.place y.state y.place z.state z.place) (farther_chain x.far x.place y.far y.place z.far z.place);
}

-- the order is that of a stable sort
put_alike : (x : Instance) (ys : List Instance) → put_in x ys ≡ sorting.put_in draw_order x ys
put_alike x [] = refl
put_alike x (y ∷ ys) = ap (λ (zs : List Instance). cond (draw_order y x) (y ∷ zs) (x ∷ y ∷ ys)) (put_alike x ys)

pub sorts_alike : (xs : List Instance) → in_draw_order xs ≡ sorting.sorted draw_order xs
sorts_alike [] = refl
sorts_alike (x ∷ xs) = put_alike x (in_draw_order xs) ∙ ap (sorting.put_in draw_order x) (sorts_alike xs)

-- neighbours of a list in order
next_not_before : (xs : List Instance) → Rises draw_order xs → (k : ℕ) (d : Instance) → suc k < length xs → draw_order (get_or xs (suc k) d) (get_or xs k d) ≡ false
next_not_before [] h k d l = absurd (omega (arith, l))
next_not_before (x ∷ []) h k d l = absurd (omega (arith, l))
next_not_before (x ∷ y ∷ ys) h zero d l = h.0.0
next_not_before (x ∷ y ∷ ys) h (suc k) d l = next_not_before (y ∷ ys) h.1 k d (omega (arith, l))

pub rises_is_sorted : (xs : List Instance) → Rises draw_order xs → IsSortedBy draw_order xs
rises_is_sorted xs h k d from to =
    subst (λ (n : ℕ). draw_order (get_or xs n d) (get_or xs k d) ≡ false) (sym (add-one k))
    (next_not_before xs h k d (omega (arith, to)))

pub order_is_sorted : (xs : List Instance) → IsSortedBy draw_order (in_draw_order xs)
order_is_sorted xs = subst (IsSortedBy draw_order) (sym (sorts_alike xs)) (rises_is_sorted (sorting.sorted draw_order xs) (rises_sorted draw_order is_order xs))

put_in-permutation : (x : Instance) (ys : List Instance) → IsPermutation (x ∷ ys) (put_in x ys)
put_in-permutation x [] = IsPermutation-refl (x ∷ [])
put_in-permutation x (y ∷ ys) = by (draw_order y x) (put_in-permutation x ys)
  where
    by : (t : Bool) → IsPermutation (x ∷ ys) (put_in x ys) → IsPermutation (x ∷ y ∷ ys) (cond t (y ∷ put_in x ys) (x ∷ y ∷ ys))
    by true later = IsPermutation-trans _ _ _ (IsPermutation-sym _ _ (IsPermutation-middle (y ∷ []) x ys)) (IsPermutation-cons y _ _ later)
    by false later = IsPermutation-refl (x ∷ y ∷ ys)

pub ordered-permutation : (xs : List Instance) → IsPermutation xs (in_draw_order xs)
ordered-permutation [] = IsPermutation-refl []
ordered-permutation (x ∷ xs) = IsPermutation-trans _ _ _ (IsPermutation-cons x _ _ (ordered-permutation xs)) (put_in-permutation x (in_draw_order xs))
