-- Items drawn triangle by triangle, and lists item by item.
use Rattle.std.proofs.Common.{◌≡◌, ℕ, zero, suc, ◌+◌, ◌≤◌, Bool, true, false, cond, List, [], ◌∷◌, ◌++◌, length, take, Option, Some, None, option_map, refl, ap, sym, ◌∙◌, subst, add-one}
use Rattle.std.specs.Prelude.{fold, filter, filter_map, flat_map, is_none, option_and_then}
use Rattle.std.specs.List.{enumerate_from, slice_get}
use Rattle.std.specs.Option.{option_map_or, option_to_list}
use Rattle.std.proofs.lemmas.Option.{get_or_from_slice_get, slice_get_within}
use Rattle.std.proofs.lemmas.List.{append-nil}
use Rattle.std.proofs.lemmas.List.Sums.{fold-append}
use Rattle.std.proofs.lemmas.List.Concat.{flat_map-append}
use Rattle.fx_math.specs.Plain.{Matrix}
use Rattle.draw_list.specs.Items.{instance_of_item, tris_at}
use Rattle.draw_list.specs.Joints.{steps_at}
use Rattle.draw_list.specs.Lists.{Drawables}
use Rattle.draw_list.specs.declared.items.Item.{Item}
use Rattle.fx_math.specs.declared.lenses.Lens.{Lens}
use Rattle.pf_model.specs.declared.geometry.Tri.{Tri}
use Rattle.pf_model.specs.Walks.{Instance}
use Rattle.tri_cover.specs.declared.hit.Hit.{Hit}
use Rattle.tri_cover.specs.Hits.{hit, HitsAs}
use Rattle.tri_cover.specs.Glass.{is_opaque, alpha_of}
use Rattle.tri_cover.specs.Picture.{Fragment, fragment_of, fragment_at, fragments, nearer, glazed, glazed_by, opaque_fragments}
use Rattle.depth_raster.specs.declared.faces.Face.{Face}
use Rattle.depth_raster.specs.Canvas.{waiting_over}
use Rattle.depth_raster.specs.Faces.{fragment_in, fragment_by, fragment_after, face_of_item, glazed_by_face, IsFaceOf}
use Rattle.depth_raster.specs.Pieces.{fragment_waiting}
use Rattle.depth_raster.specs.Drawing.{instance_over, opaque_over, instance_glazes}
use Rattle.depth_raster.proofs.Folding.{fold_numbered_more, fold_numbered_all}

-- a face shows what its triangle shows
face_shows : (x : Instance) (n : ℕ) (t : Tri) (f : Face) (lens : Lens) (px py : ℕ) → IsFaceOf x n t f → fragment_by lens px py f ≡ fragment_at lens px py x (n, t)
unfolding fragment_by
face_shows x n t f lens px py is = ap (option_map (fragment_in f)) (is.tri lens px py) ∙ by (hit lens px py x.steps t)
  where
    by : (h : Option Hit) → option_map (fragment_in f) h ≡ option_map (fragment_of x n) h
    by None = refl
    by (Some h) = rw (is.shift, is.place, is.number)

-- so does one whose triangle has the steps of its instance left
face_shows_after : (lists : List (List Matrix)) (tris : List Tri) (item : Item) (n : ℕ) (t : Tri) (lens : Lens) (px py : ℕ) → fragment_after (steps_at lists item.joint) lens px py (face_of_item item n t) ≡ fragment_at lens px py (instance_of_item lists tris item) (n, t)
unfolding fragment_after
face_shows_after lists tris item n t lens px py = by (hit lens px py (steps_at lists item.joint) t)
  where
    by : (h : Option Hit) → option_map (fragment_in (face_of_item item n t)) h ≡ option_map (fragment_of (instance_of_item lists tris item) n) h
    by None = refl
    by (Some h) = refl

-- a face whose triangle has come to the eye stands for it
pub face_stands : (lists : List (List Matrix)) (tris : List Tri) (item : Item) (n : ℕ) (t carried : Tri) (f : Face) → HitsAs t (steps_at lists item.joint) carried → f ≡ face_of_item item n carried → IsFaceOf (instance_of_item lists tris item) n t f
face_stands lists tris item n t carried f hits is =
    subst (λ (g : Face). IsFaceOf (instance_of_item lists tris item) n t g) (sym is) (record { tri = hits; place = refl; shift = refl; number = refl; alpha = refl })

-- ---- the first n triangles of an instance
abbrev pub part_over : Lens → Instance → ℕ → (px py : ℕ) → Option Fragment → Option Fragment
part_over lens x n px py drawn = fold nearer drawn (filter_map (fragment_at lens px py x) (take n (enumerate_from 0 x.tris)))

-- the triangle of a number in the item of a number, where both are there
pub waiting_is : (d : Drawables) (lens : Lens) (place number : ℕ) (i : Item) (t : Tri) (px py : ℕ) → slice_get d.items.items place ≡ Some i → slice_get (tris_at d.kept.tris i.geom) number ≡ Some t →
    fragment_waiting d lens place number px py ≡ fragment_after (steps_at d.joints.lists i.joint) lens px py (face_of_item i number t)
unfolding fragment_waiting
waiting_is d lens place number i t px py item_is tri_is =
    ap (λ (o : Option Item). option_and_then (λ i. option_and_then (λ t. fragment_after (steps_at d.joints.lists i.joint) lens px py (face_of_item i number t)) (slice_get (tris_at d.kept.tris i.geom) number)) o) item_is
    ∙ ap (λ (o : Option Tri). option_and_then (λ t. fragment_after (steps_at d.joints.lists i.joint) lens px py (face_of_item i number t)) o) tri_is

pub part_more : (d : Drawables) (lens : Lens) (place : ℕ) (item : Item) (n : ℕ) (t : Tri) (px py : ℕ) (drawn : Option Fragment) → slice_get d.items.items place ≡ Some item → slice_get (tris_at d.kept.tris item.geom) n ≡ Some t →
    waiting_over d lens place n px py (part_over lens (instance_of_item d.joints.lists d.kept.tris item) n px py drawn) ≡ part_over lens (instance_of_item d.joints.lists d.kept.tris item) (n + 1) px py drawn
part_more d lens place item n t px py drawn item_is tri_is =
    let x = instance_of_item d.joints.lists d.kept.tris item in
    let m : Option Fragment = part_over lens x n px py drawn in
    ap (λ (o : Option Fragment). option_map_or (nearer m) o m) (waiting_is d lens place n item t px py item_is tri_is ∙ face_shows_after d.joints.lists d.kept.tris item n t lens px py)
    ∙ sym (fold_numbered_more nearer (fragment_at lens px py x) drawn x.tris n t (slice_get_within x.tris n t tri_is) (sym (get_or_from_slice_get x.tris n t t tri_is)))

pub part_all : (lens : Lens) (x : Instance) (n : ℕ) (px py : ℕ) (drawn : Option Fragment) → length x.tris ≤ n → part_over lens x n px py drawn ≡ instance_over lens x px py drawn
unfolding instance_over
part_all lens x n px py drawn all = fold_numbered_all nearer (fragment_at lens px py x) drawn x.tris n all

abbrev pub part_glazes : Lens → (behind : Option Fragment) → Instance → ℕ → (px py : ℕ) → List ℕ → List ℕ
part_glazes lens behind x n px py under = fold (glazed behind (alpha_of x)) under (filter_map (fragment_at lens px py x) (take n (enumerate_from 0 x.tris)))

pub glazes_more : (lens : Lens) (behind : Option Fragment) (x : Instance) (n : ℕ) (t : Tri) (f : Face) (px py : ℕ) (under : List ℕ) → slice_get x.tris n ≡ Some t → IsFaceOf x n t f → glazed_by_face lens px py f behind (part_glazes lens behind x n px py under) ≡ part_glazes lens behind x (n + 1) px py under
unfolding glazed_by_face
glazes_more lens behind x n t f px py under at is =
    let u : List ℕ = part_glazes lens behind x n px py under in
    ap (λ (a : ℕ). option_map_or (glazed behind a u) (fragment_by lens px py f) u) is.alpha
    ∙ ap (λ (o : Option Fragment). option_map_or (glazed behind (alpha_of x) u) o u) (face_shows x n t f lens px py is)
    ∙ sym (fold_numbered_more (glazed behind (alpha_of x)) (fragment_at lens px py x) under x.tris n t (slice_get_within x.tris n t at) (sym (get_or_from_slice_get x.tris n t t at)))

pub glazes_all : (lens : Lens) (behind : Option Fragment) (x : Instance) (n : ℕ) (px py : ℕ) (under : List ℕ) → length x.tris ≤ n → part_glazes lens behind x n px py under ≡ instance_glazes lens behind x px py under
unfolding glazed_by
glazes_all lens behind x n px py under all = fold_numbered_all (glazed behind (alpha_of x)) (fragment_at lens px py x) under x.tris n all

-- ---- lists
pub take_suc : {X : Type 0} (xs : List X) (i : ℕ) → take (suc i) xs ≡ take i xs ++ option_to_list (slice_get xs i)
take_suc [] zero = refl
take_suc [] (suc i) = refl
take_suc (x ∷ xs) zero = refl
take_suc {X} (x ∷ xs) (suc i) = ap (λ (ys : List X). x ∷ ys) (take_suc xs i)

pub opaque_append : (lens : Lens) (px py : ℕ) (xs ys : List Instance) → opaque_fragments lens px py (xs ++ ys) ≡ opaque_fragments lens px py xs ++ opaque_fragments lens px py ys
opaque_append lens px py xs ys = ap (flat_map (fragments lens px py)) (filters xs) ∙ flat_map-append (fragments lens px py) (filter is_opaque xs) (filter is_opaque ys)
  where
    filters : (zs : List Instance) → filter is_opaque (zs ++ ys) ≡ filter is_opaque zs ++ filter is_opaque ys
    filters [] = refl
    filters (z ∷ zs) = by (is_opaque z) (filters zs)
      where
        by : (t : Bool) → filter is_opaque (zs ++ ys) ≡ filter is_opaque zs ++ filter is_opaque ys → cond t (z ∷ filter is_opaque (zs ++ ys)) (filter is_opaque (zs ++ ys)) ≡ cond t (z ∷ filter is_opaque zs) (filter is_opaque zs) ++ filter is_opaque ys
        by true h = ap (λ (ws : List Instance). z ∷ ws) h
        by false h = h

pub opaque_more : (lens : Lens) (xs : List Instance) (n : ℕ) (px py : ℕ) (drawn : Option Fragment) → opaque_over lens (option_to_list (slice_get xs n)) px py (opaque_over lens (take n xs) px py drawn) ≡ opaque_over lens (take (n + 1) xs) px py drawn
unfolding opaque_over
opaque_more lens xs n px py drawn =
    sym (fold-append nearer drawn (opaque_fragments lens px py (take n xs)) (opaque_fragments lens px py (option_to_list (slice_get xs n))))
    ∙ ap (fold nearer drawn) (sym (opaque_append lens px py (take n xs) (option_to_list (slice_get xs n))))
    ∙ ap (λ (ys : List Instance). fold nearer drawn (opaque_fragments lens px py ys)) (sym (take_suc xs n) ∙ ap (λ (m : ℕ). take m xs) (sym (add-one n)))

pub opaque_none : (lens : Lens) (px py : ℕ) (drawn : Option Fragment) → drawn ≡ opaque_over lens [] px py drawn
unfolding opaque_over
opaque_none lens px py drawn = refl

pub opaque_absent : (lens : Lens) (o : Option Instance) (px py : ℕ) (drawn : Option Fragment) → o ≡ None → drawn ≡ opaque_over lens (option_to_list o) px py drawn
opaque_absent lens o px py drawn is = opaque_none lens px py drawn ∙ ap (λ (p : Option Instance). opaque_over lens (option_to_list p) px py drawn) (sym is)

pub opaque_one : (lens : Lens) (x : Instance) (px py : ℕ) (drawn : Option Fragment) → x.tint ≡ None → opaque_over lens (x ∷ []) px py drawn ≡ instance_over lens x px py drawn
unfolding opaque_over instance_over
opaque_one lens x px py drawn is =
    ap (λ (o : Option ℕ). fold nearer drawn (flat_map (fragments lens px py) (cond (is_none o) (x ∷ []) []))) is
    ∙ ap (fold nearer drawn) (append-nil (fragments lens px py x))

pub opaque_glass : (lens : Lens) (x : Instance) (px py : ℕ) (drawn : Option Fragment) → (alpha : ℕ) → x.tint ≡ Some alpha → opaque_over lens (x ∷ []) px py drawn ≡ drawn
unfolding opaque_over
opaque_glass lens x px py drawn alpha is = ap (λ (o : Option ℕ). fold nearer drawn (flat_map (fragments lens px py) (cond (is_none o) (x ∷ []) []))) is

pub opaque_some : (lens : Lens) (x : Instance) (o : Option Instance) (px py : ℕ) (drawn : Option Fragment) → o ≡ Some x → opaque_over lens (x ∷ []) px py drawn ≡ opaque_over lens (option_to_list o) px py drawn
opaque_some lens x o px py drawn is = sym (ap (λ (p : Option Instance). opaque_over lens (option_to_list p) px py drawn) is)

-- what the first n triangles of an instance of glass make of a colour
abbrev pub part_glazed : Lens → Instance → ℕ → (behind : Option Fragment) → (px py : ℕ) → List ℕ → List ℕ
part_glazed lens x n behind px py under = part_glazes lens behind x n px py under
