-- Marks that are owed: those of a piece that covers all of a block in which nothing is drawn.
use Rattle.std.specs.Prelude.{◌≡◌, ℕ, ◌+◌, ◌-◌, ◌/◌, ◌%◌, ◌<◌, ◌≤◌, List, [], map, Option, Some, None, IsSomeAnd, slice_index_or}
use Rattle.std.specs.List.{range_with_len}
use Rattle.fx_math.specs.declared.lenses.Lens.{Lens}
use Rattle.tri_cover.specs.Hits.{hit}
use Rattle.depth_raster.specs.Blocks.{IsBlockOf, place_in, size_of}
use Rattle.depth_raster.specs.Marks.{mark_over, no_mark, nothing}
use Rattle.depth_raster.specs.Pieces.{IsPieceOf}
use Rattle.depth_raster.specs.declared.blocks.Block.{Block}
use Rattle.depth_raster.specs.declared.faces.Face.{Face}
use Rattle.depth_raster.specs.declared.marks.Mark.{Mark}
use Rattle.depth_raster.specs.declared.owed.Owed.{Owed}

-- what is owed at a pixel of a block: the mark of the piece alone
abbrev pub owed_mark : Owed → Block → (q r : ℕ) → Mark
owed_mark o b q r = mark_over o.lens (b.left + q) (b.first + r) o.piece.face nothing

-- what is owed in a block
unfoldable pub owed_marks : Owed → Block → List Mark
owed_marks o b = map (λ i. owed_mark o b (i % b.width) (i / b.width)) (range_with_len 0 (size_of b))

-- the marks of a block: those written, or those that are owed
abbrev pub marks_with : Block → List Mark → Option Owed → List Mark
marks_with b written None = written
marks_with b written (Some o) = owed_marks o b

-- the mark has the rank, and lies before the depth of a pixel at which nothing is drawn
pub record IsShown (m : Mark) (rank : ℕ) : Type 0 where
  pub rank_is : m.rank ≡ rank
  pub before : m.depth < 2147483648

-- the face is hit at each pixel of the block, at a mark's depth of at most top, which is less than that of nothing
pub record IsCoveredTo (lens : Lens) (f : Face) (b : Block) (top : ℕ) : Type 0 where
  pub hits : (q r : ℕ) → q < b.width → r < b.rows → IsSomeAnd (hit lens (b.left + q) (b.first + r) [] f.tri) (λ h. h.depth - f.shift ≤ top)
  pub before : top < 2147483648

-- what is owed in the block is right for the lens, and the piece covers the block
pub record IsOwedIn (b : Block) (o : Owed) : Type 0 where
  pub block : IsBlockOf o.lens b
  pub piece : IsPieceOf o.lens o.piece
  pub covered : IsCoveredTo o.lens o.piece.face b o.top

-- the marks of a block are those of a rank, and at each pixel something is drawn
abbrev pub AreShown : Block → List Mark → (rank : ℕ) → Type 0
AreShown b marks rank = (q r : ℕ) → q < b.width → r < b.rows → IsShown (slice_index_or marks (place_in b q r) no_mark) rank
