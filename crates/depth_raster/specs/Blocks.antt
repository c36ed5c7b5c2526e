-- Blocks of pixels of a picture.
use Rattle.std.specs.Prelude.{ℕ, ◌+◌, ◌*◌, ◌≤◌, List, [], slice_index_or}
use Rattle.fx_math.specs.declared.lenses.Lens.{Lens}
use Rattle.depth_raster.specs.declared.blocks.Block.{Block}

-- where the pixel in column q of the block's row r lies
abbrev pub place_in : Block → (q r : ℕ) → ℕ
place_in b q r = r * b.width + q

-- how many pixels a block has
abbrev pub size_of : Block → ℕ
size_of b = b.rows * b.width

-- the block is a part of the lens's picture
pub record IsBlockOf (lens : Lens) (b : Block) : Type 0 where
  pub columns : b.left + b.width ≤ lens.w
  pub rows : b.first + b.rows ≤ lens.h

-- the colour at a pixel of the block
abbrev pub colour_in : Block → List (List ℕ) → (q r : ℕ) → List ℕ
colour_in b colours q r = slice_index_or colours (place_in b q r) []
