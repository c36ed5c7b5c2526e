-- Instances in the order in which glass is drawn.
use Rattle.std.proofs.Common.{◌≡◌, ℕ, List, [], ◌∷◌, Bool, true, false, cond, refl, ap, ◌∙◌, arith}
use Rattle.std.specs.Prelude.{map, filter, is_some}
use Rattle.std.specs.Ordering.{is_lt, ordering_then, nat_cmp}
use Rattle.std.proofs.lemmas.Bool.Decides.{nat_tests}
use Rattle.std.specs.Cmp.{IsStrictWeakOrder}
use Rattle.tri_cover.specs.Glass.{is_glass, is_drawn_before}
use Rattle.tri_cover.specs.Sorting.{sorted}
use Rattle.tri_cover.proofs.GlassOrder.{drawn_in_order, goes_first}
use Rattle.tri_cover.proofs.Sorts.{map-sorted}
use Rattle.pf_picture.specs.Instances.{instance_of, is_before}
use Rattle.pf_picture.specs.declared.instances.Instance.{Instance}

pub glass_in_order : IsStrictWeakOrder is_before
glass_in_order = record {
  one_way = λ x y. drawn_in_order.one_way (instance_of x) (instance_of y);
  chain = λ x y z. drawn_in_order.chain (instance_of x) (instance_of y) (instance_of z);
}

numbers_alike : (d p e q : ℕ) → is_lt (ordering_then (nat_cmp e d) (nat_cmp p q)) ≡ goes_first d p e q
numbers_alike d p e q = grind (arith, nat_tests)

-- the keys by which they are sorted order them so
pub keys_alike : (x y : Instance) → is_lt (ordering_then (nat_cmp y.far x.far) (nat_cmp x.place y.place)) ≡ is_before x y
keys_alike x y = numbers_alike x.far x.place y.far y.place

pub map-filter : {X Y : Type 0} (f : X → Y) (p : Y → Bool) (xs : List X) → map f (filter (λ x. p (f x)) xs) ≡ filter p (map f xs)
map-filter f p [] = refl
map-filter {X} {Y} f p (x ∷ xs) = by (p (f x)) (map-filter f p xs)
  where
    by : (t : Bool) → map f (filter (λ y. p (f y)) xs) ≡ filter p (map f xs) → map f (cond t (x ∷ filter (λ y. p (f y)) xs) (filter (λ y. p (f y)) xs)) ≡ cond t (f x ∷ filter p (map f xs)) (filter p (map f xs))
    by true rest = ap (λ (ys : List Y). f x ∷ ys) rest
    by false rest = rest

-- the sorted glass is the glass sorted
pub glass_sorted : (xs : List Instance) → map instance_of (sorted is_before (filter (λ x. is_some x.tint) xs)) ≡ sorted is_drawn_before (filter is_glass (map instance_of xs))
glass_sorted xs =
    map-sorted is_drawn_before instance_of (filter (λ x. is_some x.tint) xs)
    ∙ ap (sorted is_drawn_before) (map-filter instance_of is_glass xs)
