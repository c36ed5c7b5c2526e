-- The colours of shapes at a pixel.
use Rattle.std.specs.Prelude.{ℕ, List, filter, fold, Option, None}
use Rattle.std.specs.List.{AllZip}
use Rattle.fx_math.specs.declared.lenses.Lens.{Lens}
use Rattle.pf_model.specs.Walks as walks
use Rattle.tri_cover.specs.Glass.{is_opaque, is_glass, is_drawn_before}
use Rattle.tri_cover.specs.Sorting.{sorted}
use Rattle.tri_cover.specs.Picture as pictures
use Rattle.pf_picture.specs.Shapes.{IsShapeOf, nearest_of, glazed_by}
use Rattle.pf_picture.specs.declared.shapes.Shape.{Shape}
use Rattle.pf_picture.specs.declared.drawings.Drawing.{Drawing}

abbrev pub AreShapes : List walks.Instance → List Shape → Type 0
AreShapes xs ss = AllZip IsShapeOf xs ss

pub record IsDrawingOf (xs : List walks.Instance) (d : Drawing) : Type 0 where
  pub opaque : AreShapes (filter is_opaque xs) d.opaque.items
  pub glass : AreShapes (sorted is_drawn_before (filter is_glass xs)) d.glass.items

-- the nearest fragment of opaque shapes at a pixel
unfoldable pub nearest_in : Lens → (px py : ℕ) → List Shape → Option pictures.Fragment
nearest_in lens px py ss = fold (nearest_of lens px py) None ss

-- the colour of opaque shapes and of glass, in the order in which it is drawn, at a pixel
unfoldable pub colour_of : Lens → List ℕ → (px py : ℕ) → (opaque glass : List Shape) → List ℕ
colour_of lens back px py opaque glass =
    let behind = nearest_in lens px py opaque in
    fold (glazed_by lens px py behind) (pictures.colour_under back behind) glass
