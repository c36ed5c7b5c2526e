-- Blocks all of which a face covers.
use Rattle.std.specs.Prelude.{ℕ, ◌+◌, ◌<◌, ◌≤◌, pos, ℤ, ◌≤ℤ◌}
use Rattle.tri_cover.specs.Faces.{depth_at}
use Rattle.tri_cover.specs.Linears.{value_at}
use Rattle.tri_cover.specs.declared.face.Face.{Face}
use Rattle.tri_cover.specs.declared.linear.Linear.{Linear}
use Rattle.depth_raster.specs.declared.blocks.Block.{Block}
use Rattle.depth_raster.specs.declared.extents.Extent.{Extent}

-- the block has pixels, and the extent has all of them
pub record HasBlock (e : Extent) (b : Block) : Type 0 where
  pub wide : 0 < b.width
  pub high : 0 < b.rows
  pub left : e.left ≤ b.left
  pub right : b.left + b.width ≤ e.right
  pub top : e.top ≤ b.first
  pub bottom : b.first + b.rows ≤ e.bottom

-- the linear function is nowhere in the block below the value
abbrev pub IsFrom : Linear → Block → ℤ → Type 0
IsFrom g b z = (q r : ℕ) → q < b.width → r < b.rows → z ≤ℤ value_at g (b.left + q) (b.first + r)

-- no edge value of the face is below 0 in the block
pub record IsInsideOf (f : Face) (b : Block) : Type 0 where
  pub first : IsFrom f.edges.e0 b (pos 0)
  pub second : IsFrom f.edges.e1 b (pos 0)
  pub third : IsFrom f.edges.e2 b (pos 0)

-- in the block the sum of its edge values is above 0, and no depth of the face is greater than this one
pub record IsSeenTo (f : Face) (b : Block) (depth : ℕ) : Type 0 where
  pub sum : IsFrom f.edges.sum b (pos 1)
  pub depths : (q r : ℕ) → q < b.width → r < b.rows → depth_at f (b.left + q) (b.first + r) ≤ depth
