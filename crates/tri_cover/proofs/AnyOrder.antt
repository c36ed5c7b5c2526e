-- A list whose places differ has the same picture in any order.
use Rattle.std.proofs.Common.{◌≡◌, ℕ, ◌+◌, ◌<◌, ◌≤◌, List, [], ◌∷◌, Bool, true, false, cond, ◌&&◌, Option, Some, None, option_map, refl, ap, sym, ◌∙◌, subst, arith, inl, inr, eq-eqb}
use Rattle.std.specs.Prelude.{filter, filter_map, fold, count_by, ◌==◌}
use Rattle.std.specs.List.{enumerate_from, cons_option}
use Rattle.std.specs.List.Sorted.{IsPermutation, ties}
use Rattle.std.proofs.lemmas.Bool.{and_parts}
use Rattle.std.proofs.lemmas.Bool.Decides.{nat_tests}
use Rattle.std.proofs.lemmas.List.Sums.{sum_by-le-sum_by}
use Rattle.fx_math.specs.declared.lenses.Lens.{Lens}
use Rattle.pf_model.specs.declared.geometry.Tri.{Tri}
use Rattle.pf_model.specs.Walks.{Instance}
use Rattle.tri_cover.specs.declared.hit.Hit.{Hit}
use Rattle.tri_cover.specs.Hits.{hit}
use Rattle.tri_cover.specs.Glass.{is_opaque, is_glass, is_drawn_before}
use Rattle.tri_cover.specs.Picture.{Fragment, fragment_of, fragment_at, fragments, opaque_fragments, nearest_opaque, colour_under, glazed_by, picture}
use Rattle.tri_cover.specs.Sorting.{sorted}
use Rattle.tri_cover.specs.Orders.{PlacesDiffer, KeysDiffer, HaveOnePicture, AreDrawnAlike}
use Rattle.tri_cover.proofs.Filtering.{filter-filter}
use Rattle.tri_cover.proofs.Keys.{AreOneKey, one_key}
use Rattle.tri_cover.specs.Leasts.{IsLeast, IsNearest}
use Rattle.tri_cover.proofs.Leasts.{is_nearest, only_nearest, least_is_nearest, same_nearest}
use Rattle.tri_cover.proofs.GlassOrder.{drawn_in_order, goes_first}
use Rattle.tri_cover.proofs.Sorts.{rises_one, rises_sorted, filter-sorted, tie_parts}
use Rattle.tri_cover.proofs.Members.{In, in_from_contains, contains_from_in, in_permutation, in_permuted, in_filter, filter_in, in_flat_map, flat_map_in, ComesFrom, one_passes, filter_once}

-- ---- the fragments of one instance have its place and the numbers of their triangles
abbrev pub numbered : Lens → (px py : ℕ) → Instance → ℕ → List Tri → List Fragment
numbered lens px py x n ts = filter_map (fragment_at lens px py x) (enumerate_from n ts)

pub record IsNumbered (x : Instance) (n : ℕ) (f : Fragment) : Type 0 where
  pub place : f.key.place ≡ x.place
  pub number : n ≤ f.key.number

numbered_in : (lens : Lens) (px py : ℕ) (x : Instance) (n : ℕ) (ts : List Tri) (f : Fragment) → In f (numbered lens px py x n ts) → IsNumbered x n f
numbered_in lens px py x n [] f m = absurd m
numbered_in lens px py x n (t ∷ ts) f m = by (hit lens px py x.steps t) (numbered_in lens px py x (n + 1) ts f) m
  where
    by : (o : Option Hit) → (In f (numbered lens px py x (n + 1) ts) → IsNumbered x (n + 1) f) → In f (cons_option (option_map (fragment_of x n) o) (numbered lens px py x (n + 1) ts)) → IsNumbered x n f
    by None later there = let l : IsNumbered x (n + 1) f = later there in record { place = l.place; number = omega (arith, l.number) }
    by (Some h) later (inl same) = record {
      place = ap (λ (g : Fragment). g.key.place) (sym same);
      number = omega (arith, ap (λ (g : Fragment). g.key.number) same);
    }
    by (Some h) later (inr there) = let l : IsNumbered x (n + 1) f = later there in record { place = l.place; number = omega (arith, l.number) }

number_one : (lens : Lens) (px py : ℕ) (x : Instance) (n : ℕ) (ts : List Tri) (f g : Fragment) → In f (numbered lens px py x n ts) → In g (numbered lens px py x n ts) → f.key.number ≡ g.key.number → f ≡ g
number_one lens px py x n [] f g m k same = absurd m
number_one lens px py x n (t ∷ ts) f g m k same =
    by (hit lens px py x.steps t) (λ a b. number_one lens px py x (n + 1) ts f g a b same) m k
  where
    later : (w : Fragment) → In w (numbered lens px py x (n + 1) ts) → n < w.key.number
    later w there = let l : IsNumbered x (n + 1) w = numbered_in lens px py x (n + 1) ts w there in omega (arith, l.number)

    by : (o : Option Hit) → (In f (numbered lens px py x (n + 1) ts) → In g (numbered lens px py x (n + 1) ts) → f ≡ g) → In f (cons_option (option_map (fragment_of x n) o) (numbered lens px py x (n + 1) ts)) → In g (cons_option (option_map (fragment_of x n) o) (numbered lens px py x (n + 1) ts)) → f ≡ g
    by None rest a b = rest a b
    by (Some h) rest (inl a) (inl b) = sym a ∙ b
    by (Some h) rest (inl a) (inr b) = absurd (omega (arith, later g b, same, ap (λ (w : Fragment). w.key.number) a))
    by (Some h) rest (inr a) (inl b) = absurd (omega (arith, later f a, same, ap (λ (w : Fragment). w.key.number) b))
    by (Some h) rest (inr a) (inr b) = rest a b

-- ---- equal keys
pub keys_differ : (xs : List Instance) → PlacesDiffer xs → KeysDiffer xs
keys_differ xs differ lens px py f g m k h i = from
    (flat_map_in (fragments lens px py) f (filter is_opaque xs) (in_from_contains f (opaque_fragments lens px py xs) m))
    (flat_map_in (fragments lens px py) g (filter is_opaque xs) (in_from_contains g (opaque_fragments lens px py xs) k))
  where
    same : AreOneKey f.key g.key
    same = one_key f.key g.key h i

    from : ComesFrom (fragments lens px py) f (filter is_opaque xs) → ComesFrom (fragments lens px py) g (filter is_opaque xs) → f ≡ g
    from a b =
        let x = a.source in
        let y = b.source in
        let fx : IsNumbered x 0 f = numbered_in lens px py x 0 x.tris f a.within in
        let gy : IsNumbered y 0 g = numbered_in lens px py y 0 y.tris g b.within in
        let place : y.place ≡ x.place = sym gy.place ∙ sym same.place ∙ fx.place in
        let one : y ≡ x = one_passes (λ (z : Instance). z.place == x.place) y x xs (differ x.place) (filter_in is_opaque y xs b.among).0 (filter_in is_opaque x xs a.among).0 (eq-eqb y.place x.place place) (eq-eqb x.place x.place refl) in
        number_one lens px py x 0 x.tris f g a.within (subst (λ (z : Instance). In g (fragments lens px py z)) one b.within) same.number

-- ---- two orders of one list
moved_fragment : (lens : Lens) (px py : ℕ) (xs ys : List Instance) → ((x : Instance) → In x xs → In x ys) → (f : Fragment) → In f (opaque_fragments lens px py xs) → In f (opaque_fragments lens px py ys)
moved_fragment lens px py xs ys move f m = from (flat_map_in (fragments lens px py) f (filter is_opaque xs) m)
  where
    from : ComesFrom (fragments lens px py) f (filter is_opaque xs) → In f (opaque_fragments lens px py ys)
    from c =
        let h : In c.source xs × (is_opaque c.source ≡ true) = filter_in is_opaque c.source xs c.among in
        in_flat_map (fragments lens px py) f c.source (filter is_opaque ys) (in_filter is_opaque c.source ys (move c.source h.0) h.1) c.within

same_opaque : (xs ys : List Instance) → PlacesDiffer xs → IsPermutation xs ys → (lens : Lens) (px py : ℕ) → nearest_opaque lens px py ys ≡ nearest_opaque lens px py xs
unfolding nearest_opaque
same_opaque xs ys differ perm lens px py = sym (same_nearest fs gs (keys_differ xs differ lens px py)
    (λ w m. contains_from_in w gs (moved_fragment lens px py xs ys (λ x n. in_permutation x xs ys perm n) w (in_from_contains w fs m)))
    (λ w m. contains_from_in w fs (moved_fragment lens px py ys xs (λ x n. in_permuted x xs ys perm n) w (in_from_contains w gs m))))
  where
    fs : List Fragment
    fs = opaque_fragments lens px py xs

    gs : List Fragment
    gs = opaque_fragments lens px py ys

same_place : (d p e q : ℕ) → goes_first d p e q ≡ false → goes_first e q d p ≡ false → q ≡ p
same_place d p e q h g = grind (arith, nat_tests)

tied_place : (k x : Instance) → ties is_drawn_before k x ≡ true → x.place ≡ k.place
tied_place k x t =
    let h : (is_drawn_before k x ≡ false) × (is_drawn_before x k ≡ false) = tie_parts is_drawn_before k x t in
    same_place k.far k.place x.far x.place h.0 h.1

glass_once : (xs : List Instance) → PlacesDiffer xs → (k : Instance) → count_by (λ x. is_glass x && ties is_drawn_before k x) xs ≤ 1
glass_once xs differ k = omega (arith, differ k.place, sum_by-le-sum_by (λ (x : Instance). cond (is_glass x && ties is_drawn_before k x) 1 0) (λ (x : Instance). cond (x.place == k.place) 1 0) xs fewer)
  where
    fewer : (x : Instance) → cond (is_glass x && ties is_drawn_before k x) 1 0 ≤ cond (x.place == k.place) 1 0
    fewer x = by (is_glass x && ties is_drawn_before k x) refl
      where
        by : (t : Bool) → t ≡ (is_glass x && ties is_drawn_before k x) → cond t 1 0 ≤ cond (x.place == k.place) 1 0
        by false e = omega arith
        by true e = subst (λ (u : Bool). 1 ≤ cond u 1 0) (sym (eq-eqb x.place k.place (tied_place k x ((and_parts (is_glass x) (ties is_drawn_before k x) (sym e)).1)))) (omega arith)

same_glass : (xs ys : List Instance) → PlacesDiffer xs → IsPermutation xs ys → sorted is_drawn_before (filter is_glass ys) ≡ sorted is_drawn_before (filter is_glass xs)
same_glass xs ys differ perm =
    rises_one is_drawn_before drawn_in_order (sorted is_drawn_before (filter is_glass ys)) (sorted is_drawn_before (filter is_glass xs))
    (rises_sorted is_drawn_before drawn_in_order (filter is_glass ys)) (rises_sorted is_drawn_before drawn_in_order (filter is_glass xs))
    (λ k. filter-sorted is_drawn_before drawn_in_order k (filter is_glass ys)
    ∙ filter-filter is_glass (ties is_drawn_before k) ys
    ∙ sym (filter_once (λ x. is_glass x && ties is_drawn_before k x) xs ys perm (glass_once xs differ k))
    ∙ sym (filter-filter is_glass (ties is_drawn_before k) xs)
    ∙ sym (filter-sorted is_drawn_before drawn_in_order k (filter is_glass xs)))

same_picture : (xs ys : List Instance) → ((lens : Lens) (px py : ℕ) → nearest_opaque lens px py ys ≡ nearest_opaque lens px py xs) → sorted is_drawn_before (filter is_glass ys) ≡ sorted is_drawn_before (filter is_glass xs) → HaveOnePicture xs ys
unfolding picture
same_picture xs ys opaque glass lens px py back =
    ap (λ (g : Option Fragment). fold (glazed_by lens px py g) (colour_under back g) (sorted is_drawn_before (filter is_glass ys))) (opaque lens px py)
    ∙ ap (fold (glazed_by lens px py (nearest_opaque lens px py xs)) (colour_under back (nearest_opaque lens px py xs))) glass

pub drawn_alike : (xs ys : List Instance) → PlacesDiffer xs → IsPermutation xs ys → AreDrawnAlike xs ys
drawn_alike xs ys differ perm = record {
  opaque = same_opaque xs ys differ perm;
  glass = same_glass xs ys differ perm;
  pixels = same_picture xs ys (same_opaque xs ys differ perm) (same_glass xs ys differ perm);
}

-- ---- the opaque fragment that is drawn
pub nearest_is_drawn : (lens : Lens) (px py : ℕ) (xs : List Instance) → IsNearest (opaque_fragments lens px py xs) (nearest_opaque lens px py xs)
unfolding nearest_opaque
nearest_is_drawn lens px py xs = is_nearest (opaque_fragments lens px py xs)

pub only_drawn : (lens : Lens) (px py : ℕ) (xs : List Instance) (o : Option Fragment) → IsNearest (opaque_fragments lens px py xs) o → o ≡ nearest_opaque lens px py xs
unfolding nearest_opaque
only_drawn lens px py xs o h = only_nearest (opaque_fragments lens px py xs) o h

pub least_drawn : (lens : Lens) (px py : ℕ) (xs : List Instance) (f : Fragment) → PlacesDiffer xs → IsLeast (opaque_fragments lens px py xs) f → nearest_opaque lens px py xs ≡ Some f
unfolding nearest_opaque
least_drawn lens px py xs f differ least = least_is_nearest (opaque_fragments lens px py xs) f (keys_differ xs differ lens px py) least
