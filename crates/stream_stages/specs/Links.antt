-- What a poll leaves of its desk and of its links, and what its answer says.
use Rattle.std.specs.Prelude.{◌≡◌, ℕ, ◌+◌, ◌≤◌, Bool, true, false, List, length, Option, IfSome, MatchOption, Result, Ok, Err}
use Rattle.seat_lock.specs.Desk.{Looked, Stand}
use Rattle.frame_link.specs.Link.{Link}
use Rattle.pf_history.specs.declared.commands.Entry.{Entry}
use Rattle.pf_history.specs.Logs.{Log}
use Rattle.pf_scene.specs.Scenes.{SceneState}
use Rattle.stage_parts.specs.declared.packets.Packet.{Packet}
use Rattle.stage_parts.specs.declared.answers.Did.{Did}
use Rattle.stage_parts.specs.declared.answers.Did.TheVariants as did
use Rattle.stage_parts.specs.declared.answers.StageError.{StageError}
use Rattle.stream_stages.specs.Cuts.{Cut}

-- Looks

abbrev pub log_of : SceneState → Log
log_of scene = scene.shared.log

-- a desk of this number, which had seen a log, found the stop mark or not, and has then seen the log of the scene found
abbrev pub SawMark : ℕ → Log → Option SceneState → Bool → Log → Type 0
SawMark number seen told stopped seen' =
    Looked log_of number (λ scene out. out ≡ scene.shared.stopped) seen told stopped seen'

-- What stays

-- What stays of a desk: its number, and what no turn changes.
pub record DeskPlace : Type 0 where
  pub number : ℕ
  pub stands : Stand Entry

abbrev pub desk_place : ℕ → Stand Entry → DeskPlace
desk_place number stands = record { number = number; stands = stands }

-- What stays of the end of a link: the link, the room that this has, and what the end tells of the other one.
pub record EndPlace (X : Type 0) : Type 0 where
  pub link : Link
  pub room : ℕ
  pub other_end : Option (List X)

abbrev pub end_place : {X : Type 0} → Link → ℕ → Option (List X) → EndPlace X
end_place link room other_end = record { link = link; room = room; other_end = other_end }

-- Answers

-- the link has no room: as many items were sent as it has room for, beside those received where its sending end knows
-- what was received
abbrev pub HasNoRoom : {X : Type 0} → ℕ → Option (List X) → List X → Type 0
HasNoRoom room told sent = MatchOption told (room ≤ length sent) (λ taken. length taken + room ≤ length sent)

-- all that was sent over the link is received, where its receiving end knows what was sent
abbrev pub HasNoMore : {X : Type 0} → Option (List X) → List X → Type 0
HasNoMore told taken = IfSome told (λ sent. sent ≡ taken)

-- A stage, with the packets that it received and sent, and the pieces that it received and sent.
pub record Streamed (X : Type 0) : Type 0 where
  pub state : X
  pub taken : List Packet
  pub sent : List Packet
  pub came : List Cut
  pub gone : List Cut

-- a stage at a moment
abbrev pub moment : {X : Type 0} → X → (taken sent : List Packet) → (came gone : List Cut) → Streamed X
moment state taken sent came gone = record { state = state; taken = taken; sent = sent; came = came; gone = gone }

-- how often a packet or a piece was received or sent
abbrev pub crossed : {X : Type 0} → Streamed X → ℕ
crossed s = length s.taken + length s.sent + (length s.came + length s.gone)

-- whether a stage received or sent one packet or piece, or changed nothing and has to wait
abbrev pub MovesOne : {X : Type 0} → Bool → (before after : Streamed X) → (wait : Type 0) → Type 0
MovesOne true before after wait = crossed after ≡ crossed before + 1
MovesOne false before after wait = (after ≡ before) × wait

-- From one moment to the next, but for the stage itself nothing changed but the packets received, the packets sent, the pieces
-- received, or the pieces sent.
abbrev pub OnlyTakes : {X : Type 0} → (before after : Streamed X) → Type 0
OnlyTakes before after = after ≡ record before { state = after.state; taken = after.taken }

abbrev pub OnlySends : {X : Type 0} → (before after : Streamed X) → Type 0
OnlySends before after = after ≡ record before { state = after.state; sent = after.sent }

abbrev pub OnlyReceives : {X : Type 0} → (before after : Streamed X) → Type 0
OnlyReceives before after = after ≡ record before { state = after.state; came = after.came }

abbrev pub OnlyGives : {X : Type 0} → (before after : Streamed X) → Type 0
OnlyGives before after = after ≡ record before { state = after.state; gone = after.gone }

-- What the answer of a stage says: it received or sent one packet or piece; it changed nothing, and has to wait; it is
-- over, and changed nothing. An error never comes.
abbrev pub Answers : {X : Type 0} → Result Did StageError → (before after : Streamed X) → (wait : Type 0) → Type 0
Answers (Ok did.Did) before after wait = MovesOne true before after wait
Answers (Ok did.NotYet) before after wait = MovesOne false before after wait
Answers (Ok did.Over) before after wait = after ≡ before
Answers (Err e) before after wait = ⊥
