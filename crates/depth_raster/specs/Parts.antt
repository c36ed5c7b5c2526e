-- Parts of blocks.
use Rattle.std.specs.Prelude.{◌≡◌, ◌+◌, ◌-◌, min}
use Rattle.depth_raster.specs.declared.blocks.Block.{Block}
use Rattle.depth_raster.specs.declared.extents.Extent.{Extent}

-- the part of the block has its columns and rows that are those of the extent too
pub record IsPartIn (e : Extent) (b part : Block) : Type 0 where
  pub left : part.left ≡ b.left + min b.width (e.left - b.left)
  pub first : part.first ≡ b.first + min b.rows (e.top - b.first)
  pub width : part.width ≡ min b.width (e.right - b.left) - min b.width (e.left - b.left)
  pub rows : part.rows ≡ min b.rows (e.bottom - b.first) - min b.rows (e.top - b.first)
