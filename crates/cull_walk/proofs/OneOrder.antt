-- Instances whose places rise have one order in which they are drawn.
use Rattle.std.proofs.Common.{◌≡◌, ◌∙◌, ℕ, ◌+◌, ◌≤◌, List, [], ◌∷◌, Bool, true, false, cond, not, ◌&&◌, ◌||◌, ap, sym, refl, subst, arith, get_or, eq-eqb, add-one}
use Rattle.std.specs.Prelude.{count_by, ◌==◌}
use Rattle.std.specs.Cmp.{IsStrictWeakOrder}
use Rattle.std.specs.List.Sorted.{IsPermutation, IsSortedBy, ties}
use Rattle.std.proofs.lemmas.Bool.Decides.{nat_tests}
use Rattle.std.proofs.lemmas.List.Sums.{sum_by-le-sum_by}
use Rattle.pf_model.specs.Walks.{Instance}
use Rattle.draw_list.specs.Order.{is_opaque, is_earlier, draw_order, put_in, in_draw_order}
use Rattle.tri_cover.specs.Labels.{PlacesRise}
use Rattle.tri_cover.specs.Orders.{PlacesDiffer}
use Rattle.tri_cover.specs.Sorting as sorting
use Rattle.tri_cover.proofs.Sorts.{rises_one, rises_from_neighbours, rises_sorted, filter-sorted, tie_parts}
use Rattle.tri_cover.proofs.Members.{filter_once}
use Rattle.tri_cover.proofs.Rising.{rise_differ}

earlier_one_way : (a p b q : ℕ) → is_earlier a p b q ≡ true → is_earlier b q a p ≡ false
earlier_one_way a p b q h = grind (arith, nat_tests)

earlier_chain : (a p b q c r : ℕ) → is_earlier a p b q ≡ false → is_earlier b q c r ≡ false → is_earlier a p c r ≡ false
earlier_chain a p b q c r h g = grind (arith, nat_tests)

earlier_place : (a p b q : ℕ) → is_earlier a p b q ≡ false → is_earlier b q a p ≡ false → q ≡ p
earlier_place a p b q h g = grind (arith, nat_tests)

farther_chain : (d p e q f r : ℕ) → is_earlier e p d q ≡ false → is_earlier f q e r ≡ false → is_earlier f p d r ≡ false
farther_chain d p e q f r h g = grind (arith, nat_tests)

-- the order of two instances, of which each is opaque or not
abbrev goes : (o w : Bool) → (earlier farther : Bool) → Bool
goes o w earlier farther = cond o (not w || earlier) (not w && farther)

one_way : (o w : Bool) (e f g h : Bool) → (e ≡ true → g ≡ false) → (f ≡ true → h ≡ false) → goes o w e f ≡ true → goes w o g h ≡ false
one_way true true e f g h k l m = k m
one_way true false e f g h k l m = refl
one_way false true e f g h k l m = absurd (cc)
one_way false false e f g h k l m = l m

chain : (o w z : Bool) (e f g h i j : Bool) → (e ≡ false → g ≡ false → i ≡ false) → (f ≡ false → h ≡ false → j ≡ false) → goes o w e f ≡ false → goes w z g h ≡ false → goes o z i j ≡ false
chain true true true e f g h i j k l m n = k m n
chain true true false e f g h i j k l m n = absurd (cc)
chain true false z e f g h i j k l m n = absurd (cc)
chain false true true e f g h i j k l m n = refl
chain false true false e f g h i j k l m n = absurd (cc)
chain false false true e f g h i j k l m n = refl
chain false false false e f g h i j k l m n = l m n

is_order : IsStrictWeakOrder draw_order
is_order = record {
  one_way = λ x y. one_way (is_opaque x) (is_opaque y) _ _ _ _ (earlier_one_way x.state x.place y.state y.place) (earlier_one_way y.far x.place x.far y.place);
  chain = λ x y z. chain (is_opaque x) (is_opaque y) (is_opaque z) _ _ _ _ _ _
      (earlier_chain x.state x.place y.state y.place z.state z.place) (farther_chain x.far x.place y.far y.place z.far z.place);
}

-- the order is that of a stable sort
put_alike : (x : Instance) (ys : List Instance) → put_in x ys ≡ sorting.put_in draw_order x ys
put_alike x [] = refl
put_alike x (y ∷ ys) = ap (λ (zs : List Instance). cond (draw_order y x) (y ∷ zs) (x ∷ y ∷ ys)) (put_alike x ys)

sorts_alike : (xs : List Instance) → in_draw_order xs ≡ sorting.sorted draw_order xs
sorts_alike [] = refl
sorts_alike (x ∷ xs) = put_alike x (in_draw_order xs) ∙ ap (sorting.put_in draw_order x) (sorts_alike xs)

-- two instances of which neither goes before the other have the same place
tied_place_of : (o w : Bool) (e f g h : Bool) (p q : ℕ) → (e ≡ false → g ≡ false → q ≡ p) → (f ≡ false → h ≡ false → q ≡ p) → goes o w e f ≡ false → goes w o g h ≡ false → q ≡ p
tied_place_of true true e f g h p q k l m n = k m n
tied_place_of true false e f g h p q k l m n = absurd (cc)
tied_place_of false true e f g h p q k l m n = absurd (cc)
tied_place_of false false e f g h p q k l m n = l m n

farther_place : (d p e q : ℕ) → is_earlier e p d q ≡ false → is_earlier d q e p ≡ false → q ≡ p
farther_place d p e q h g = grind (arith, nat_tests)

tied_place : (k x : Instance) → ties draw_order k x ≡ true → x.place ≡ k.place
tied_place k x t =
    let h : (draw_order k x ≡ false) × (draw_order x k ≡ false) = tie_parts draw_order k x t in
    tied_place_of (is_opaque k) (is_opaque x) _ _ _ _ k.place x.place
    (earlier_place k.state k.place x.state x.place) (farther_place k.far k.place x.far x.place) h.0 h.1

once : (xs : List Instance) → PlacesDiffer xs → (k : Instance) → count_by (ties draw_order k) xs ≤ 1
once xs differ k = omega (arith, differ k.place, sum_by-le-sum_by (λ (x : Instance). cond (ties draw_order k x) 1 0) (λ (x : Instance). cond (x.place == k.place) 1 0) xs fewer)
  where
    fewer : (x : Instance) → cond (ties draw_order k x) 1 0 ≤ cond (x.place == k.place) 1 0
    fewer x = by (ties draw_order k x) refl
      where
        by : (t : Bool) → t ≡ ties draw_order k x → cond t 1 0 ≤ cond (x.place == k.place) 1 0
        by false e = omega arith
        by true e = subst (λ (u : Bool). 1 ≤ cond u 1 0) (sym (eq-eqb x.place k.place (tied_place k x (sym e)))) (omega arith)

pub one_order : (xs ys : List Instance) → PlacesRise xs → IsPermutation xs ys → IsSortedBy draw_order ys → ys ≡ in_draw_order xs
one_order xs ys rise perm rises =
    rises_one draw_order is_order ys (sorting.sorted draw_order xs)
    (rises_from_neighbours draw_order is_order ys (λ k d l. let at : draw_order (get_or ys (k + 1) d) (get_or ys k d) ≡ false = rises k d (omega arith) (omega (arith, l)) in subst (λ n. draw_order (get_or ys n d) (get_or ys k d) ≡ false) (add-one k) at))
    (rises_sorted draw_order is_order xs)
    (λ k. sym (filter_once (ties draw_order k) xs ys perm (once xs (rise_differ xs rise) k)) ∙ sym (filter-sorted draw_order is_order k xs))
    ∙ sym (sorts_alike xs)
