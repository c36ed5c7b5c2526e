-- What is asked of a face at a pixel.
use Rattle.std.specs.Prelude.{◌≡◌, ℕ, ◌+◌, ◌<◌, ◌≤◌, Option, Some, None, Bool, true, false, pos, ◌<ℤ◌}
use Rattle.tri_cover.specs.declared.face.Face.{Face}
use Rattle.tri_cover.specs.declared.hit.Hit.{Hit}
use Rattle.tri_cover.specs.Faces.{face_hit, depth_at, colour_at}
use Rattle.tri_cover.specs.Linears.{value_at}
use Rattle.tri_cover.specs.declared.linear.Linear.{Linear}
use Rattle.edge_values.specs.declared.depths.Depths.{Depths}
use Rattle.depth_raster.specs.declared.blocks.Block.{Block}

-- The face is hit at the pixel at this depth, before the limit; or it is not hit before the limit.
abbrev pub Looks : Face → (px py limit : ℕ) → Option ℕ → Type 0
Looks f px py limit None = (h : Hit) → face_hit f px py ≡ Some h → limit ≤ h.depth
Looks f px py limit (Some depth) = (face_hit f px py ≡ Some (record { depth = depth; colour = colour_at f px py })) × (depth < limit)

-- the same, where the depth does not matter
abbrev pub IsSeen : Face → (px py limit : ℕ) → Bool → Type 0
IsSeen f px py limit true = Looks f px py limit (Some (depth_at f px py))
IsSeen f px py limit false = Looks f px py limit None

-- the depth at which the face is hit at the pixel, where it is hit
abbrev pub IsDepthAt : Face → (px py : ℕ) → Option ℕ → Type 0
IsDepthAt f px py None = face_hit f px py ≡ None
IsDepthAt f px py (Some depth) = face_hit f px py ≡ Some (record { depth = depth; colour = colour_at f px py })

-- the face is hit at no pixel from one of a row to another
abbrev pub IsMissedTo : Face → (px end py : ℕ) → Type 0
IsMissedTo f px end py = (x : ℕ) → px ≤ x → x ≤ end → face_hit f x py ≡ None

-- the depths are those of the face
pub record AreDepthsOf (f : Face) (t : Depths) : Type 0 where
  pub dividend_is : t.dividend ≡ f.dividend
  pub near_is : t.near ≡ f.extent.near
  pub far_is : t.far ≡ f.extent.far

-- at no pixel of the block the face is hit before the limit
abbrev pub IsHidden : Face → Block → (limit : ℕ) → Type 0
IsHidden f b limit = (q r : ℕ) (h : Hit) → q < b.width → r < b.rows → face_hit f (b.left + q) (b.first + r) ≡ Some h → limit ≤ h.depth

-- the linear function is below 0 at each pixel of the block
abbrev pub IsBelow : Linear → Block → Type 0
IsBelow g b = (q r : ℕ) → q < b.width → r < b.rows → value_at g (b.left + q) (b.first + r) <ℤ pos 0
