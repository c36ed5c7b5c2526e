-- Columns and rows outside of which a triangle is not hit.
use Rattle.std.specs.Prelude.{◌≡◌, ⊤, ℕ, ◌+◌, ◌<◌, ◌≤◌, [], Option, Some, None}
use Rattle.fx_math.specs.declared.lenses.Lens.{Lens}
use Rattle.pf_model.specs.declared.geometry.Tri.{Tri}
use Rattle.tri_cover.specs.Hits.{hit}
use Rattle.tri_cover.specs.declared.face.Face as faces
use Rattle.depth_raster.specs.declared.extents.Extent.{Extent}

-- the triangle is not hit at the pixel
abbrev pub IsUnhit : Lens → Tri → (px py : ℕ) → Type 0
IsUnhit lens t px py = hit lens px py [] t ≡ None

-- the triangle is not hit outside of these columns and rows
pub record IsAround (lens : Lens) (t : Tri) (e : Extent) : Type 0 where
  pub columns : e.right ≤ lens.w
  pub rows : e.bottom ≤ lens.h
  pub left_of : (px py : ℕ) → px < lens.w → py < lens.h → px < e.left → IsUnhit lens t px py
  pub right_of : (px py : ℕ) → px < lens.w → py < lens.h → e.right ≤ px → IsUnhit lens t px py
  pub above : (px py : ℕ) → px < lens.w → py < lens.h → py < e.top → IsUnhit lens t px py
  pub below : (px py : ℕ) → px < lens.w → py < lens.h → e.bottom ≤ py → IsUnhit lens t px py

-- the box of a face, where the triangle has one
pub record IsFaceBox (f : faces.Face) (e : Extent) : Type 0 where
  pub left : e.left ≡ f.extent.columns.first
  pub right : e.right ≡ f.extent.columns.last + 1
  pub top : e.top ≡ f.extent.rows.first
  pub bottom : e.bottom ≡ f.extent.rows.last + 1

abbrev pub IsBoxOf : Option faces.Face → Extent → Type 0
IsBoxOf None e = ⊤
IsBoxOf (Some f) e = IsFaceBox f e

-- the pixel lies in the columns and rows
pub record IsWithin (e : Extent) (px py : ℕ) : Type 0 where
  pub left : e.left ≤ px
  pub right : px < e.right
  pub top : e.top ≤ py
  pub bottom : py < e.bottom
