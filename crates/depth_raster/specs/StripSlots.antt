-- The slots of a strip, and what their pieces make of a pixel.
use Rattle.std.specs.Prelude.{◌≡◌, ℕ, ◌/◌, List, fold, Option, Some, option_and_then, slice_get, min}
use Rattle.std.specs.Int.{div_ceil}
use Rattle.fx_math.specs.declared.lenses.Lens.{Lens}
use Rattle.depth_raster.specs.Marks.{mark_by, mark_with}
use Rattle.depth_raster.specs.Pieces.{IsLeast}
use Rattle.depth_raster.specs.declared.marks.Mark.{Mark}
use Rattle.depth_raster.specs.declared.pieces.Piece.{Piece}
use Rattle.depth_raster.specs.declared.slots.Slot.{Slot}
use Rattle.depth_raster.specs.declared.strip_slots.StripSlot.{StripSlot}

-- what a strip has of a slot: its columns are told by tiles of sixteen
abbrev pub in_strip : Slot → StripSlot
in_strip s = record {
  least = s.least;
  index = s.index;
  start = min 255 (s.left / 16);
  end = min 255 (div_ceil s.right 16);
}

-- the mark of the piece of a strip's slot at a pixel, where it hits
abbrev pub mark_in_strip : Lens → List Piece → (px py : ℕ) → StripSlot → Option Mark
mark_in_strip lens ps px py s = option_and_then (λ p. mark_by lens px py p.face) (slice_get ps s.index)

-- what that piece makes of a mark
abbrev pub strip_slot_over : Lens → List Piece → StripSlot → (px py : ℕ) → Mark → Mark
strip_slot_over lens ps s px py m = mark_with m (mark_in_strip lens ps px py s)

-- what those of a strip's slots make of it, in their order
abbrev pub strip_slots_over : Lens → List Piece → List StripSlot → (px py : ℕ) → Mark → Mark
strip_slots_over lens ps ss px py m = fold (λ n s. strip_slot_over lens ps s px py n) m ss

-- the strip's slot has the tiles that the piece can reach, and a least depth of its marks
pub record IsStripSlotFor (p : Piece) (s : StripSlot) : Type 0 where
  pub least : IsLeast p.face s.least
  pub start : s.start ≡ min 255 (p.extent.left / 16)
  pub end : s.end ≡ min 255 (div_ceil p.extent.right 16)

-- so it has those of its piece
abbrev pub IsStripSlotOf : List Piece → StripSlot → Type 0
IsStripSlotOf ps s = (p : Piece) → slice_get ps s.index ≡ Some p → IsStripSlotFor p s
