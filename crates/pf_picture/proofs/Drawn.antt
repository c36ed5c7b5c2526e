-- The shapes of instances have the colours of their picture.
use Rattle.std.proofs.Common.{◌≡◌, ℕ, List, [], ◌∷◌, Option, None, refl, ap, sym, ◌∙◌}
use Rattle.std.specs.Prelude.{fold, filter, flat_map}
use Rattle.std.proofs.lemmas.List.Sums.{fold-append}
use Rattle.fx_math.specs.declared.lenses.Lens.{Lens}
use Rattle.pf_model.specs.Walks as walks
use Rattle.tri_cover.specs.Glass.{is_opaque, is_glass, is_drawn_before}
use Rattle.tri_cover.specs.Sorting.{sorted}
use Rattle.tri_cover.specs.Picture as pictures
use Rattle.tri_cover.specs.Picture.{nearest_opaque, colour_under, picture}
use Rattle.pf_picture.specs.Drawings.{AreShapes, IsDrawingOf, nearest_in, colour_of}
use Rattle.pf_picture.specs.Rows.{colour_in}
use Rattle.pf_picture.specs.Shapes.{IsShapeOf, nearest_of, glazed_by}
use Rattle.pf_picture.specs.declared.drawings.Drawing.{Drawing}
use Rattle.pf_picture.specs.declared.shapes.Shape.{Shape}

nearest_of-shape : (lens : Lens) (px py : ℕ) (a : Option pictures.Fragment) (x : walks.Instance) (s : Shape) → IsShapeOf x s → nearest_of lens px py a s ≡ fold pictures.nearer a (pictures.fragments lens px py x)
unfolding nearest_of
nearest_of-shape lens px py a x s is = ap (fold pictures.nearer a) (is.seen lens px py)

fold-nearest_of : (lens : Lens) (px py : ℕ) (a : Option pictures.Fragment) (xs : List walks.Instance) (ss : List Shape) → AreShapes xs ss → fold (nearest_of lens px py) a ss ≡ fold pictures.nearer a (flat_map (pictures.fragments lens px py) xs)
fold-nearest_of lens px py a [] [] are = refl
fold-nearest_of lens px py a [] (s ∷ ss) are = absurd are
fold-nearest_of lens px py a (x ∷ xs) [] are = absurd are
fold-nearest_of lens px py a (x ∷ xs) (s ∷ ss) are =
    fold-nearest_of lens px py (nearest_of lens px py a s) xs ss are.1
    ∙ ap (λ (b : Option pictures.Fragment). fold pictures.nearer b (flat_map (pictures.fragments lens px py) xs)) (nearest_of-shape lens px py a x s are.0)
    ∙ sym (fold-append pictures.nearer a (pictures.fragments lens px py x) (flat_map (pictures.fragments lens px py) xs))

glazed_by-shape : (lens : Lens) (px py : ℕ) (behind : Option pictures.Fragment) (under : List ℕ) (x : walks.Instance) (s : Shape) → IsShapeOf x s → glazed_by lens px py behind under s ≡ pictures.glazed_by lens px py behind under x
unfolding glazed_by pictures.glazed_by
glazed_by-shape lens px py behind under x s is =
    ap (fold (pictures.glazed behind s.alpha) under) (is.seen lens px py)
    ∙ ap (λ (alpha : ℕ). fold (pictures.glazed behind alpha) under (pictures.fragments lens px py x)) (sym is.alpha)

fold-glazed_by : (lens : Lens) (px py : ℕ) (behind : Option pictures.Fragment) (under : List ℕ) (xs : List walks.Instance) (ss : List Shape) → AreShapes xs ss → fold (glazed_by lens px py behind) under ss ≡ fold (pictures.glazed_by lens px py behind) under xs
fold-glazed_by lens px py behind under [] [] are = refl
fold-glazed_by lens px py behind under [] (s ∷ ss) are = absurd are
fold-glazed_by lens px py behind under (x ∷ xs) [] are = absurd are
fold-glazed_by lens px py behind under (x ∷ xs) (s ∷ ss) are =
    fold-glazed_by lens px py behind (glazed_by lens px py behind under s) xs ss are.1
    ∙ ap (λ (u : List ℕ). fold (pictures.glazed_by lens px py behind) u xs) (glazed_by-shape lens px py behind under x s are.0)

nearest-shapes : (lens : Lens) (px py : ℕ) (xs : List walks.Instance) (ss : List Shape) → AreShapes (filter is_opaque xs) ss → nearest_in lens px py ss ≡ nearest_opaque lens px py xs
unfolding nearest_in nearest_opaque
nearest-shapes lens px py xs ss are = fold-nearest_of lens px py None (filter is_opaque xs) ss are

pub colour_in-drawing : (lens : Lens) (back : List ℕ) (xs : List walks.Instance) (d : Drawing) → IsDrawingOf xs d → (px py : ℕ) → colour_in lens back d px py ≡ picture lens back xs px py
unfolding colour_of picture
colour_in-drawing lens back xs d is px py =
    fold-glazed_by lens px py (nearest_in lens px py d.opaque.items) (colour_under back (nearest_in lens px py d.opaque.items)) (sorted is_drawn_before (filter is_glass xs)) d.glass.items is.glass
    ∙ ap (λ (g : Option pictures.Fragment). fold (pictures.glazed_by lens px py g) (colour_under back g) (sorted is_drawn_before (filter is_glass xs))) (nearest-shapes lens px py xs d.opaque.items is.opaque)
