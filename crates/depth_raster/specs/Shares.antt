-- The slots of pieces by the strips of the picture whose rows they reach.
use Rattle.std.specs.Prelude.{◌≡◌, ℕ, ◌+◌, ◌*◌, ◌<◌, Bool, nat_lt, ◌&&◌, List, [], ◌∷◌, ◌++◌, length, map, filter, slice_index_or, if◌then◌else◌}
use Rattle.std.specs.List.{All}
use Rattle.fx_math.specs.declared.lenses.Lens.{Lens}
use Rattle.depth_raster.specs.Pieces.{pieces_over}
use Rattle.depth_raster.specs.StripSlots.{in_strip, strip_slots_over, IsStripSlotOf}
use Rattle.depth_raster.specs.declared.blocks.Block.{Block}
use Rattle.depth_raster.specs.declared.marks.Mark.{Mark}
use Rattle.depth_raster.specs.declared.pieces.Piece.{Piece}
use Rattle.depth_raster.specs.declared.slots.Slot.{Slot}
use Rattle.depth_raster.specs.declared.strip.Strip.{Strip}
use Rattle.depth_raster.specs.declared.strip_slots.StripSlot.{StripSlot}

-- the slot reaches rows of the band of a strip
abbrev pub meets : Block → Slot → Bool
meets b s = nat_lt s.top (b.first + 16) && nat_lt b.first s.bottom

-- the strips lie one below the other, from the first row on
abbrev pub AreStacked : List Strip → Type 0
AreStacked strips = (i : ℕ) (d : Strip) → i < length strips → (slice_index_or strips i d).band.first ≡ 16 * i

-- the strip has these slots now; all else stays
pub record HasSlots (ss : List StripSlot) (before after : Strip) : Type 0 where
  pub band : after.band ≡ before.band
  pub tiles : after.tiles.items ≡ before.tiles.items
  pub rows : after.rows.items ≡ before.rows.items
  pub slots : after.slots.items ≡ ss

-- the strip has the slot besides, where the slot reaches its rows
abbrev pub Gains : Slot → (before after : Strip) → Type 0
Gains s before after = HasSlots (before.slots.items ++ (if meets before.band s then in_strip s ∷ [] else [])) before after

-- so do all strips
abbrev pub EachGains : Slot → (before after : List Strip) → Type 0
EachGains s before after = (i : ℕ) (d : Strip) → i < length before → Gains s (slice_index_or before i d) (slice_index_or after i d)

-- the strip has those of the slots that reach its rows
abbrev pub HasShare : List Slot → (before after : Strip) → Type 0
HasShare ss before after = HasSlots (map in_strip (filter (meets before.band) ss)) before after

-- so does each strip
abbrev pub AreShared : List Slot → (before after : List Strip) → Type 0
AreShared ss before after = (i : ℕ) (d : Strip) → i < length before → HasShare ss (slice_index_or before i d) (slice_index_or after i d)

-- in the rows of a block the slots make the same of marks as the pieces
pub record AreSlotsFor (lens : Lens) (ps : List Piece) (b : Block) (ss : List StripSlot) : Type 0 where
  pub rows : All (IsStripSlotOf ps) ss
  pub over : (px r : ℕ) (m : Mark) → px < lens.w → r < b.rows
      → strip_slots_over lens ps ss px (b.first + r) m ≡ pieces_over lens ps px (b.first + r) m

-- in the rows of a strip its slots do
abbrev pub HasSlotsFor : Lens → List Piece → Strip → Type 0
HasSlotsFor lens ps s = AreSlotsFor lens ps s.band s.slots.items
