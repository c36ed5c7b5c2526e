-- What a stage leaves as it was of its desk and of the ends of its links.
use Rattle.std.specs.Prelude.{ℕ, List, Option}
use Rattle.seat_lock.specs.Desk.{Stand}
use Rattle.frame_link.specs.Link.{Link}
use Rattle.pf_history.specs.declared.commands.Entry.{Entry}
use Rattle.stage_parts.specs.declared.packets.Packet.{Packet}

-- What stays of a desk: its number, and what no turn changes.
pub record DeskPlace : Type 0 where
  pub number : ℕ
  pub stands : Stand Entry

abbrev pub desk_place : ℕ → Stand Entry → DeskPlace
desk_place number stands = record { number = number; stands = stands }

-- What stays of the end of a link: the link, the room that this has, and what the end tells of the other one.
pub record EndPlace : Type 0 where
  pub link : Link
  pub room : ℕ
  pub other_end : Option (List Packet)

abbrev pub end_place : Link → ℕ → Option (List Packet) → EndPlace
end_place link room other_end = record { link = link; room = room; other_end = other_end }
