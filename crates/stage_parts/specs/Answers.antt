-- What the answers of a poll say.
use Rattle.std.specs.Prelude.{◌≡◌, ℕ, ◌+◌, ◌≤◌, Bool, true, false, List, length, Option, IfSome, MatchOption, Result, Ok, Err}
use Rattle.stage_parts.specs.declared.packets.Packet.{Packet}
use Rattle.stage_parts.specs.declared.answers.Did.{Did}
use Rattle.stage_parts.specs.declared.answers.Did.TheVariants as did
use Rattle.stage_parts.specs.declared.answers.StageError.{StageError}

-- whether a poll answered that its stage is over
abbrev pub is_over : Result Did StageError → Bool
is_over (Ok did.Over) = true
is_over _ = false

-- the link has no room: as many packets were sent as it has room for, beside those received where its sending end knows
-- what was received
abbrev pub IsFull : ℕ → Option (List Packet) → List Packet → Type 0
IsFull room told sent = MatchOption told (room ≤ length sent) (λ taken. length taken + room ≤ length sent)

-- all that was sent over the link is received, where its receiving end knows what was sent
abbrev pub IsDry : Option (List Packet) → List Packet → Type 0
IsDry told taken = IfSome told (λ sent. sent ≡ taken)

-- A stage, with what it received and sent.
pub record Placed (X : Type 0) : Type 0 where
  pub state : X
  pub taken : List Packet
  pub sent : List Packet

-- Why a stage that takes packets and passes them on has to wait: it holds a packet and its link is full, or it holds none
-- and none came.
abbrev pub WaitsToPass : Option Packet → (dry full : Type 0) → Type 0
WaitsToPass held dry full = MatchOption held dry (λ _. full)

-- whether a stage received or sent one packet, or changed nothing and has to wait
abbrev pub MovesOne : {X : Type 0} → Bool → (before after : Placed X) → (wait : Type 0) → Type 0
MovesOne true before after wait = length after.taken + length after.sent ≡ length before.taken + length before.sent + 1
MovesOne false before after wait = (after ≡ before) × wait

-- What the answer of such a stage says: it received or sent one packet; it changed nothing, and has to wait; it is over,
-- and changed nothing. An error never comes.
abbrev pub PassesOn : {X : Type 0} → Result Did StageError → (before after : Placed X) → (wait : Type 0) → Type 0
PassesOn (Ok did.Did) before after wait = MovesOne true before after wait
PassesOn (Ok did.NotYet) before after wait = MovesOne false before after wait
PassesOn (Ok did.Over) before after wait = after ≡ before
PassesOn (Err e) before after wait = ⊥

-- the answer of a stage that is not over
abbrev pub did_of : Bool → Did
did_of true = did.Did
did_of false = did.NotYet
