-- The order in which pieces are drawn, and what they make of a pixel.
use Rattle.std.specs.Prelude.{◌≡◌, ℕ, ◌<◌, ◌≤◌, List, length, fold, Option, Some, option_and_then, slice_get, slice_index_or}
use Rattle.std.specs.List.{All}
use Rattle.fx_math.specs.declared.lenses.Lens.{Lens}
use Rattle.depth_raster.specs.Marks.{mark_by, mark_with}
use Rattle.depth_raster.specs.Pieces.{IsLeast, pieces_over}
use Rattle.depth_raster.specs.declared.marks.Mark.{Mark}
use Rattle.depth_raster.specs.declared.pieces.Piece.{Piece}
use Rattle.depth_raster.specs.declared.slots.Slot.{Slot}

-- the mark of the piece of a slot at a pixel, where it hits
abbrev pub mark_in_slot : Lens → List Piece → (px py : ℕ) → Slot → Option Mark
mark_in_slot lens ps px py s = option_and_then (λ p. mark_by lens px py p.face) (slice_get ps s.index)

-- what the piece of a slot makes of a mark
abbrev pub slot_over : Lens → List Piece → Slot → (px py : ℕ) → Mark → Mark
slot_over lens ps s px py m = mark_with m (mark_in_slot lens ps px py s)

-- what those of slots make of it, in their order
abbrev pub slots_over : Lens → List Piece → List Slot → (px py : ℕ) → Mark → Mark
slots_over lens ps ss px py m = fold (λ n s. slot_over lens ps s px py n) m ss

-- the slot has the columns and rows that the piece can reach, and a least depth of its marks
pub record IsSlotFor (p : Piece) (s : Slot) : Type 0 where
  pub least : IsLeast p.face s.least
  pub left : s.left ≡ p.extent.left
  pub right : s.right ≡ p.extent.right
  pub top : s.top ≡ p.extent.top
  pub bottom : s.bottom ≡ p.extent.bottom

-- the slot has become that of the piece, and keeps its place
pub record IsTaken (p : Piece) (before after : Slot) : Type 0 where
  pub index : after.index ≡ before.index
  pub slot : IsSlotFor p after

-- each slot has become that of its piece
abbrev pub AreTaken : List Piece → (before after : List Slot) → Type 0
AreTaken ps before after =
    (k : ℕ) (d : Piece) (e : Slot) → k < length ps → IsTaken (slice_index_or ps k d) (slice_index_or before k e) (slice_index_or after k e)

-- the slots have their places as indices
abbrev pub AreNumbered : List Slot → Type 0
AreNumbered ss = (k : ℕ) (e : Slot) → k < length ss → (slice_index_or ss k e).index ≡ k

-- the slots are those of the first pieces, in their order
pub record AreSlotted (ps : List Piece) (ss : List Slot) : Type 0 where
  pub few : length ss ≤ length ps
  pub numbered : AreNumbered ss
  pub slots : (k : ℕ) (d : Piece) (e : Slot) → k < length ss → IsSlotFor (slice_index_or ps k d) (slice_index_or ss k e)

-- so it has those of its piece
abbrev pub IsSlotOf : List Piece → Slot → Type 0
IsSlotOf ps s = (p : Piece) → slice_get ps s.index ≡ Some p → IsSlotFor p s

-- the slots are those of the pieces, in some order
pub record AreSlotsOf (lens : Lens) (ps : List Piece) (ss : List Slot) : Type 0 where
  pub rows : All (IsSlotOf ps) ss
  pub over : (px py : ℕ) (m : Mark) → slots_over lens ps ss px py m ≡ pieces_over lens ps px py m
