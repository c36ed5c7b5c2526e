-- In which order a stage that takes packets and passes them on goes.
use Rattle.std.specs.Prelude.{◌≡◌, Option, MatchOption}
use Rattle.stage_parts.specs.declared.packets.Packet.{Packet}
use Rattle.stage_parts.specs.Answers.{Placed}
use Rattle.stage_parts.specs.Parts.{sent_and_held}

-- The stage took none, and what it sent and holds to send is as it was.
pub record OnlySends {X : Type 0} (held held' : Option Packet) (before after : Placed X) : Type 0 where
  pub taken : after.taken ≡ before.taken
  pub all : sent_and_held after.sent held' ≡ sent_and_held before.sent held

-- What is held goes first: a stage that holds a packet only sends it, and one that holds none sends none.
abbrev pub GoesInTurn : {X : Type 0} → (held held' : Option Packet) → (before after : Placed X) → Type 0
GoesInTurn held held' before after = MatchOption held (after.sent ≡ before.sent) (λ _. OnlySends held held' before after)
