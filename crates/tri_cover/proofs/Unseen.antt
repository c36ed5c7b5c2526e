-- Instances that hit nothing may be left out of a picture.
use Rattle.std.proofs.Common.{◌≡◌, ℕ, ◌+◌, List, [], ◌∷◌, Bool, true, false, cond, Option, None, option_map, refl, ap, sym, ◌∙◌}
use Rattle.std.specs.Prelude.{filter, filter_map, flat_map, fold}
use Rattle.std.specs.Cmp.{IsStrictWeakOrder}
use Rattle.std.specs.List.{All, enumerate_from, cons_option}
use Rattle.std.specs.List.Sorted.{ties}
use Rattle.std.proofs.lemmas.List.Elements.{All-head, All-tail, All-cons, All-filter, All-weaker}
use Rattle.fx_math.specs.declared.lenses.Lens.{Lens}
use Rattle.pf_model.specs.declared.geometry.Tri.{Tri}
use Rattle.pf_model.specs.Walks.{Instance}
use Rattle.tri_cover.specs.declared.hit.Hit.{Hit}
use Rattle.tri_cover.specs.Hits.{hit}
use Rattle.tri_cover.specs.Glass.{is_opaque, is_glass, alpha_of, is_drawn_before}
use Rattle.tri_cover.specs.Sorting.{put_in, sorted}
use Rattle.tri_cover.specs.Picture.{Fragment, nearer, glazed, fragment_of, fragment_at, fragments, nearest_opaque, colour_under, glazed_by, picture}
use Rattle.tri_cover.proofs.GlassOrder.{drawn_in_order}
use Rattle.tri_cover.proofs.Sorts.{NoneBefore, Rises, rises_one, rises_sorted, filter-sorted}
use Rattle.tri_cover.specs.LeftOut.{is_hit_by, IsMissed, HasNoHit, LeavesOutNoHit}
use Rattle.tri_cover.specs.Orders.{HaveOneColour}
use Rattle.tri_cover.proofs.Judgement.{no_hit}
use Rattle.tri_cover.proofs.Filtering.{filter_comm, flat_map-filter, fold-filter}

-- ---- what hits nothing has no fragments
none_from : (lens : Lens) (px py : ℕ) (x : Instance) (n : ℕ) (ts : List Tri) → All (λ t. hit lens px py x.steps t ≡ None) ts → filter_map (fragment_at lens px py x) (enumerate_from n ts) ≡ []
none_from lens px py x n [] missed = refl
none_from lens px py x n (t ∷ ts) missed =
    ap (λ (o : Option Hit). cons_option (option_map (fragment_of x n) o) (filter_map (fragment_at lens px py x) (enumerate_from (n + 1) ts))) (All-head (λ t. hit lens px py x.steps t ≡ None) t ts missed)
    ∙ none_from lens px py x (n + 1) ts (All-tail (λ t. hit lens px py x.steps t ≡ None) t ts missed)

no_fragments : (lens : Lens) (px py : ℕ) (x : Instance) → HasNoHit lens px py x → fragments lens px py x ≡ []
no_fragments lens px py x missed = none_from lens px py x 0 x.tris missed

nothing_glazed : (lens : Lens) (px py : ℕ) (behind : Option Fragment) (under : List ℕ) (x : Instance) → HasNoHit lens px py x → glazed_by lens px py behind under x ≡ under
unfolding glazed_by
nothing_glazed lens px py behind under x missed = ap (fold (glazed behind (alpha_of x)) under) (no_fragments lens px py x missed)

-- ---- a filter of a sorted list
none_before_filter : {X : Type 0} (lt : X → X → Bool) (keep : X → Bool) (x : X) (xs : List X) → NoneBefore lt x xs → NoneBefore lt x (filter keep xs)
none_before_filter lt keep x [] none = tt
none_before_filter {X} lt keep x (y ∷ ys) none = by (keep y) (none_before_filter lt keep x ys none.1)
  where
    by : (t : Bool) → NoneBefore lt x (filter keep ys) → NoneBefore lt x (cond t (y ∷ filter keep ys) (filter keep ys))
    by true rest = (none.0, rest)
    by false rest = rest

rises_filter : {X : Type 0} (lt : X → X → Bool) (keep : X → Bool) (xs : List X) → Rises lt xs → Rises lt (filter keep xs)
rises_filter lt keep [] rises = tt
rises_filter {X} lt keep (x ∷ xs) rises = by (keep x) (rises_filter lt keep xs rises.1)
  where
    by : (t : Bool) → Rises lt (filter keep xs) → Rises lt (cond t (x ∷ filter keep xs) (filter keep xs))
    by true rest = (none_before_filter lt keep x xs rises.0, rest)
    by false rest = rest

sorted-filter : {X : Type 0} (lt : X → X → Bool) → IsStrictWeakOrder lt → (keep : X → Bool) (xs : List X) → sorted lt (filter keep xs) ≡ filter keep (sorted lt xs)
sorted-filter lt o keep xs =
    rises_one lt o (sorted lt (filter keep xs)) (filter keep (sorted lt xs))
    (rises_sorted lt o (filter keep xs)) (rises_filter lt keep (sorted lt xs) (rises_sorted lt o xs))
    (λ k. filter-sorted lt o k (filter keep xs)
    ∙ filter_comm keep (ties lt k) xs
    ∙ ap (filter keep) (sym (filter-sorted lt o k xs))
    ∙ filter_comm (ties lt k) keep (sorted lt xs))

all_put : {X : Type 0} (P : X → Type 0) (lt : X → X → Bool) (x : X) (xs : List X) → P x → All P xs → All P (put_in lt x xs)
all_put P lt x [] p all = All-cons P x [] p all
all_put {X} P lt x (y ∷ ys) p all = by (lt y x) (all_put P lt x ys p (All-tail P y ys all))
  where
    by : (t : Bool) → All P (put_in lt x ys) → All P (cond t (y ∷ put_in lt x ys) (x ∷ y ∷ ys))
    by true rest = All-cons P y (put_in lt x ys) (All-head P y ys all) rest
    by false rest = All-cons P x (y ∷ ys) p all

all_sorted : {X : Type 0} (P : X → Type 0) (lt : X → X → Bool) (xs : List X) → All P xs → All P (sorted lt xs)
all_sorted P lt [] all = all
all_sorted P lt (x ∷ xs) all = all_put P lt x (sorted lt xs) (All-head P x xs all) (all_sorted P lt xs (All-tail P x xs all))

-- ---- the picture
opaque_stays : (lens : Lens) (px py : ℕ) (keep : Instance → Bool) (xs : List Instance) → LeavesOutNoHit lens px py keep xs → nearest_opaque lens px py (filter keep xs) ≡ nearest_opaque lens px py xs
unfolding nearest_opaque
opaque_stays lens px py keep xs missed =
    ap (λ (ys : List Instance). fold nearer None (flat_map (fragments lens px py) ys)) (filter_comm keep is_opaque xs)
    ∙ ap (fold nearer None) (flat_map-filter (fragments lens px py) keep (filter is_opaque xs) none)
  where
    none : All (λ x. keep x ≡ false → fragments lens px py x ≡ []) (filter is_opaque xs)
    none = All-filter is_opaque (λ x. keep x ≡ false → fragments lens px py x ≡ []) xs
        (All-weaker (λ x. keep x ≡ false → HasNoHit lens px py x) (λ x. keep x ≡ false → fragments lens px py x ≡ []) (λ x h out. no_fragments lens px py x (h out)) xs missed)

glass_stays : (lens : Lens) (px py : ℕ) (keep : Instance → Bool) (xs : List Instance) → LeavesOutNoHit lens px py keep xs → (behind : Option Fragment) (under : List ℕ) → fold (glazed_by lens px py behind) under (sorted is_drawn_before (filter is_glass (filter keep xs))) ≡ fold (glazed_by lens px py behind) under (sorted is_drawn_before (filter is_glass xs))
glass_stays lens px py keep xs missed behind under =
    ap (λ (ys : List Instance). fold (glazed_by lens px py behind) under ys)
    (ap (sorted is_drawn_before) (filter_comm keep is_glass xs) ∙ sorted-filter is_drawn_before drawn_in_order keep (filter is_glass xs))
    ∙ fold-filter (glazed_by lens px py behind) keep under (sorted is_drawn_before (filter is_glass xs)) same
  where
    Still : Instance → Type 0
    Still x = keep x ≡ false → (b : List ℕ) → glazed_by lens px py behind b x ≡ b

    same : All Still (sorted is_drawn_before (filter is_glass xs))
    same = all_sorted Still is_drawn_before (filter is_glass xs) (All-filter is_glass Still xs
        (All-weaker (λ x. keep x ≡ false → HasNoHit lens px py x) Still (λ x h out b. nothing_glazed lens px py behind b x (h out)) xs missed))

pub same_pixel : (lens : Lens) (px py : ℕ) (keep : Instance → Bool) (xs : List Instance) → LeavesOutNoHit lens px py keep xs → HaveOneColour lens px py xs (filter keep xs)
unfolding picture
same_pixel lens px py keep xs missed back =
    glass_stays lens px py keep xs missed (nearest_opaque lens px py (filter keep xs)) (colour_under back (nearest_opaque lens px py (filter keep xs)))
    ∙ ap (λ (g : Option Fragment). fold (glazed_by lens px py g) (colour_under back g) (sorted is_drawn_before (filter is_glass xs))) (opaque_stays lens px py keep xs missed)

-- the pixel's ray meets no triangle of the instance between the lens's depths
pub missed_by_all : (lens : Lens) (px py : ℕ) (x : Instance) → IsMissed lens px py x → HasNoHit lens px py x
missed_by_all lens px py x missed = All-weaker (λ t. is_hit_by lens px py x.steps t ≡ false) (λ t. hit lens px py x.steps t ≡ None) (λ t h. no_hit lens px py x.steps t h) x.tris missed
