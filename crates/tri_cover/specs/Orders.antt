-- What the picture of a list owes its order.
use Rattle.std.specs.Prelude.{◌≡◌, ℕ, ◌≤◌, List, filter, count_by, ◌==◌, Contains, false}
use Rattle.fx_math.specs.declared.lenses.Lens.{Lens}
use Rattle.pf_model.specs.Walks.{Instance}
use Rattle.tri_cover.specs.Glass.{is_glass, is_drawn_before}
use Rattle.tri_cover.specs.Picture.{Fragment, is_less, opaque_fragments, nearest_opaque, picture}
use Rattle.tri_cover.specs.Sorting.{sorted}

-- no place stands twice
abbrev pub PlacesDiffer : List Instance → Type 0
PlacesDiffer xs = (place : ℕ) → count_by (λ x. x.place == place) xs ≤ 1

-- of the opaque fragments no two have the same key
abbrev pub KeysDiffer : List Instance → Type 0
KeysDiffer xs = (lens : Lens) (px py : ℕ) (f g : Fragment)
    → Contains (opaque_fragments lens px py xs) f → Contains (opaque_fragments lens px py xs) g
    → is_less f.key g.key ≡ false → is_less g.key f.key ≡ false → f ≡ g

-- before each background the two lists show the same colour at the pixel
abbrev pub HaveOneColour : Lens → (px py : ℕ) → List Instance → List Instance → Type 0
HaveOneColour lens px py xs ys = (back : List ℕ) → picture lens back ys px py ≡ picture lens back xs px py

-- through each lens and before each background the two lists have the same picture
abbrev pub HaveOnePicture : List Instance → List Instance → Type 0
HaveOnePicture xs ys = (lens : Lens) (px py : ℕ) → HaveOneColour lens px py xs ys

-- the two lists show the same opaque fragments, draw their glass in the same order, and have the same picture
pub record AreDrawnAlike (xs ys : List Instance) : Type 0 where
  pub opaque : (lens : Lens) (px py : ℕ) → nearest_opaque lens px py ys ≡ nearest_opaque lens px py xs
  pub glass : sorted is_drawn_before (filter is_glass ys) ≡ sorted is_drawn_before (filter is_glass xs)
  pub pixels : HaveOnePicture xs ys
