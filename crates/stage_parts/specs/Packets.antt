-- The packets of a link: loads, and the end.
use Rattle.std.specs.Prelude.{◌≡◌, ℕ, Bool, true, false, List, [], ◌∷◌, map, length, take}
use Rattle.std.specs.List.{list_any}
use Rattle.pf_model.specs.Graphs.{Nodes}
use Rattle.pf_model.specs.Copies.{UpdateList, copy_of}
use Rattle.stage_parts.specs.declared.packets.Packet.{Packet}
use Rattle.stage_parts.specs.declared.packets.Packet.TheVariants.{Frame, End}
use Rattle.stage_parts.specs.Loads.{LoadState}

abbrev pub is_end : Packet → Bool
is_end (Frame l) = false
is_end End = true

abbrev pub has_end : List Packet → Bool
has_end packets = list_any is_end packets

-- the loads of packets, in order
abbrev pub loads_in : List Packet → List LoadState
loads_in [] = []
loads_in (Frame l ∷ packets) = l ∷ loads_in packets
loads_in (End ∷ packets) = loads_in packets

-- the bytes of a packet's pictures, none of the end
abbrev pub bytes_in : Packet → List ℕ
bytes_in (Frame l) = l.bytes
bytes_in End = []

-- the update lists of loads
abbrev pub updates_in : List LoadState → List UpdateList
updates_in loads = map (λ l. l.cut.updates) loads

-- the copy that the update lists of the first k loads keep
abbrev pub copy_at : List LoadState → ℕ → Nodes
copy_at loads k = copy_of (updates_in (take k loads))

-- what was received is a front of what was sent
pub record LinkPart (sent taken : List Packet) : Type 0 where
  pub front : taken ≡ take (length taken) sent
