-- The glass that waits, in the order in which it is drawn.
use Rattle.std.proofs.Common.{◌≡◌, ◌∙◌, ℕ, zero, suc, ◌+◌, ◌≤◌, ◌<◌, List, [], ◌∷◌, length, Bool, true, false, cond, not, ◌&&◌, ◌||◌, Option, Some, None, ap, sym, refl, subst, arith, get_or, eq-eqb, add-one}
use Rattle.std.specs.Prelude.{map, count_by, ◌==◌, is_some}
use Rattle.std.specs.List.{All, AllByRecursion}
use Rattle.std.specs.Option.{option_map}
use Rattle.std.specs.List.Sorted.{IsPermutation, IsSortedBy, ties}
use Rattle.std.specs.Ordering.{is_lt, ordering_then, nat_cmp}
use Rattle.std.proofs.lemmas.Bool.Decides.{nat_tests}
use Rattle.std.proofs.lemmas.List.Elements.{All-from_recursion}
use Rattle.std.proofs.lemmas.List.Sorted.{IsPermutation-map, All-permutation}
use Rattle.std.proofs.lemmas.List.Sums.{sum_by-le-sum_by}
use Rattle.fx_math.specs.Plain.{Matrix}
use Rattle.pf_model.specs.Graphs.{Look}
use Rattle.pf_model.specs.Limits.{IsRising}
use Rattle.pf_model.specs.Walks.{Instance}
use Rattle.draw_list.specs.declared.items.Tint.{Tint}
use Rattle.draw_list.specs.Order.{is_opaque, is_earlier, draw_order, in_draw_order}
use Rattle.tri_cover.specs.Labels.{PlacesRise}
use Rattle.tri_cover.specs.Orders.{PlacesDiffer}
use Rattle.tri_cover.specs.Sorting as sorting
use Rattle.tri_cover.proofs.Sorts.{rises_one, rises_from_neighbours, rises_sorted, filter-sorted, tie_parts}
use Rattle.tri_cover.proofs.Members.{filter_once}
use Rattle.tri_cover.proofs.Rising.{rise_differ}
use Rattle.stream_stages.specs.declared.sightings.Sighting.{Sighting}
use Rattle.stream_stages.specs.Routes.{sighted, far_of, glass_key, glass_order}
use Rattle.stream_stages.specs.Underway.{IsGlassSighted}
use Rattle.stream_stages.proofs.DrawOrder.{is_order, sorts_alike}

-- ---- instances whose places rise have one order in which they are drawn
earlier_place : (a p b q : ℕ) → is_earlier a p b q ≡ false → is_earlier b q a p ≡ false → q ≡ p
earlier_place a p b q h g = grind (arith, nat_tests)

farther_place : (d p e q : ℕ) → is_earlier e p d q ≡ false → is_earlier d q e p ≡ false → q ≡ p
farther_place d p e q h g = grind (arith, nat_tests)

abbrev goes : (o w : Bool) → (earlier farther : Bool) → Bool
goes o w earlier farther = cond o (not w || earlier) (not w && farther)

tied_place_of : (o w : Bool) (e f g h : Bool) (p q : ℕ) → (e ≡ false → g ≡ false → q ≡ p) → (f ≡ false → h ≡ false → q ≡ p) → goes o w e f ≡ false → goes w o g h ≡ false → q ≡ p
tied_place_of true true e f g h p q k l m n = k m n
tied_place_of true false e f g h p q k l m n = absurd (cc)
tied_place_of false true e f g h p q k l m n = absurd (cc)
tied_place_of false false e f g h p q k l m n = l m n

tied_place : (k x : Instance) → ties draw_order k x ≡ true → x.place ≡ k.place
tied_place k x t =
    let h : (draw_order k x ≡ false) × (draw_order x k ≡ false) = tie_parts draw_order k x t in
    tied_place_of (is_opaque k) (is_opaque x) _ _ _ _ k.place x.place
    (earlier_place k.state k.place x.state x.place) (farther_place k.far k.place x.far x.place) h.0 h.1

once : (xs : List Instance) → PlacesDiffer xs → (k : Instance) → count_by (ties draw_order k) xs ≤ 1
once xs differ k = omega (arith, differ k.place, sum_by-le-sum_by (λ (x : Instance). cond (ties draw_order k x) 1 0) (λ (x : Instance). cond (x.place == k.place) 1 0) xs fewer)
  where
    fewer : (x : Instance) → cond (ties draw_order k x) 1 0 ≤ cond (x.place == k.place) 1 0
    fewer x = by (ties draw_order k x) refl
      where
        by : (t : Bool) → t ≡ ties draw_order k x → cond t 1 0 ≤ cond (x.place == k.place) 1 0
        by false e = omega arith
        by true e = subst (λ (u : Bool). 1 ≤ cond u 1 0) (sym (eq-eqb x.place k.place (tied_place k x (sym e)))) (omega arith)

one_order : (xs ys : List Instance) → PlacesRise xs → IsPermutation xs ys → IsSortedBy draw_order ys → ys ≡ in_draw_order xs
one_order xs ys rise perm rises =
    rises_one draw_order is_order ys (sorting.sorted draw_order xs)
    (rises_from_neighbours draw_order is_order ys (λ k d l. let at : draw_order (get_or ys (k + 1) d) (get_or ys k d) ≡ false = rises k d (omega arith) (omega (arith, l)) in subst (λ n. draw_order (get_or ys n d) (get_or ys k d) ≡ false) (add-one k) at))
    (rises_sorted draw_order is_order xs)
    (λ k. sym (filter_once (ties draw_order k) xs ys perm (once xs (rise_differ xs rise) k)) ∙ sym (filter-sorted draw_order is_order k xs))
    ∙ sym (sorts_alike xs)

-- ---- keys
numbers_alike : (s p t q : ℕ) → is_lt (ordering_then (nat_cmp s t) (nat_cmp p q)) ≡ is_earlier s p t q
numbers_alike s p t q = grind (arith, nat_tests)

abbrev key_order : Sighting → Sighting → Bool
key_order x y = is_lt (ordering_then (nat_cmp (glass_key y).0.0 (glass_key x).0.0) (nat_cmp (glass_key x).1 (glass_key y).1))

pub keys_alike : (x y : Sighting) → key_order x y ≡ glass_order x y
keys_alike x y = numbers_alike (far_of y) x.place (far_of x) y.place

pub keys_sort : (xs : List Sighting) → IsSortedBy key_order xs → IsSortedBy glass_order xs
keys_sort xs h = subst (λ (lt : Sighting → Sighting → Bool). IsSortedBy lt xs) (λ k x y. keys_alike x y k) h

-- ---- glass as instances
abbrev IsGlassy : Sighting → Type 0
IsGlassy x = is_some x.tint ≡ true

goes_alike : (look : Look) (view : List Matrix) (x y : Sighting) → IsGlassy x → IsGlassy y → draw_order (sighted look view x) (sighted look view y) ≡ glass_order x y
goes_alike look view x y f g = by x.tint y.tint f g (far_of x) (far_of y)
  where
    by : (t u : Option Tint) → is_some t ≡ true → is_some u ≡ true → (d e : ℕ) →
        goes (not (is_some (option_map (λ (v : Tint). v.alpha) t))) (not (is_some (option_map (λ (v : Tint). v.alpha) u))) (is_earlier x.state x.place y.state y.place) (is_earlier e x.place d y.place) ≡ is_earlier e x.place d y.place
    by None u f g d e = absurd (cc)
    by (Some a) None f g d e = absurd (cc)
    by (Some a) (Some b) f g d e = refl

sorted_instances : (look : Look) (view : List Matrix) (xs : List Sighting) → All IsGlassy xs → IsSortedBy glass_order xs → IsSortedBy draw_order (map (sighted look view) xs)
sorted_instances look view xs glassy h k d low high = at xs glassy k d (omega (arith, high, long xs)) (λ x. h k x low (omega (arith, high, long xs)))
  where
    long : (ys : List Sighting) → length (map (sighted look view) ys) ≡ length ys
    long [] = refl
    long (y ∷ ys) = ap (λ (n : ℕ). suc n) (long ys)

    reads : (ys : List Sighting) (k : ℕ) (d : Instance) (x : Sighting) → k < length ys → get_or (map (sighted look view) ys) k d ≡ sighted look view (get_or ys k x)
    reads [] k d x l = absurd (omega (arith, l))
    reads (y ∷ ys) zero d x l = refl
    reads (y ∷ ys) (suc k) d x l = reads ys k d x (omega (arith, l))

    at : (ys : List Sighting) → All IsGlassy ys → (k : ℕ) (d : Instance) → k + 1 < length ys → ((x : Sighting) → glass_order (get_or ys (k + 1) x) (get_or ys k x) ≡ false) →
        draw_order (get_or (map (sighted look view) ys) (k + 1) d) (get_or (map (sighted look view) ys) k d) ≡ false
    at [] g k d l h = absurd (omega (arith, l))
    at (x ∷ ys) g k d l h =
        (λ j. draw_order (reads (x ∷ ys) (k + 1) d x l j) (reads (x ∷ ys) k d x (omega (arith, l)) j))
        ∙ goes_alike look view (get_or (x ∷ ys) (k + 1) x) (get_or (x ∷ ys) k x) (g (k + 1) x l) (g k x (omega (arith, l)))
        ∙ h x

places_are : (look : Look) (view : List Matrix) (xs : List Sighting) → map (λ (i : Instance). i.place) (map (sighted look view) xs) ≡ map (λ (x : Sighting). x.place) xs
places_are look view [] = refl
places_are look view (x ∷ xs) = ap (λ (ns : List ℕ). x.place ∷ ns) (places_are look view xs)

glassy_all : (look : Look) (before : ℕ) (xs : List Sighting) → AllByRecursion (IsGlassSighted look before) xs → AllByRecursion IsGlassy xs
glassy_all look before [] h = tt
glassy_all look before (x ∷ xs) h = (h.0.glass, glassy_all look before xs h.1)

pub ordered : (look : Look) (view : List Matrix) (before : ℕ) (xs ys : List Sighting) → AllByRecursion (IsGlassSighted look before) xs → IsRising (map (λ x. x.place) xs) → IsPermutation xs ys → IsSortedBy glass_order ys →
    map (sighted look view) ys ≡ in_draw_order (map (sighted look view) xs)
ordered look view before xs ys there rise perm rises =
    one_order (map (sighted look view) xs) (map (sighted look view) ys) (subst IsRising (sym (places_are look view xs)) rise)
    (IsPermutation-map (sighted look view) xs ys perm)
    (sorted_instances look view ys (All-permutation IsGlassy xs ys perm (All-from_recursion IsGlassy xs (glassy_all look before xs there))) rises)
