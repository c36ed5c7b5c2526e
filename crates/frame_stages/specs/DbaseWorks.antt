-- What contracts see of the database process, and what it keeps of its section and of the log that its desk has seen.
use Rattle.std.specs.Prelude.{◌≡◌, ℕ, ◌≤◌, Bool, true, false, not, if◌then◌else◌, ◌&&◌, List, [], ◌∷◌, ◌++◌, map, take, drop}
use Rattle.std.specs.List.{AllByRecursion}
use Rattle.pf_model.specs.declared.lines.BaseLine.{BaseLine}
use Rattle.pf_model.specs.Merges.{BufferState, empty_buffer, buffer_after}
use Rattle.pf_history.specs.Logs.{Log, state_of}
use Rattle.pf_history.specs.declared.commands.Caller.TheVariants.{Dbase}
use Rattle.pf_history.specs.Asks.{merge_of, is_at}
use Rattle.stage_parts.specs.States.{DbaseState, steps_since}
use Rattle.stage_parts.specs.Parts.{DbaseKeeps}
use Rattle.stage_parts.specs.Grows.{StandsInDbase}
use Rattle.frame_stages.specs.declared.in_hand.InHand.{InHand}
use Rattle.frame_stages.specs.declared.in_hand.InHand.TheVariants as hand

-- The database process: the lines that are left, how many it passed, the greatest await among these, whether it ended for
-- want of memory, and what is in hand of its open buffer.
pub record DbaseWork : Type 0 where
  pub rest : List BaseLine
  pub at : ℕ
  pub need : ℕ
  pub failed : Bool
  pub hand : InHand

-- the database process before its first line
abbrev pub opening_work : List BaseLine → DbaseWork
opening_work lines = record { rest = lines; at = 0; need = 0; failed = false; hand = hand.Nothing }

-- the same, with more lines; they are dropped where it ended for want of memory
abbrev pub more_work : List BaseLine → DbaseWork → DbaseWork
more_work more w = record w { rest = if w.failed then w.rest else w.rest ++ more }

-- whether no line is left: the section is done, or was given up for want of memory
abbrev pub is_ended : List BaseLine → Bool
is_ended [] = true
is_ended (l ∷ ls) = false

-- whether it has ended: each line of its section is passed
abbrev pub has_ended : DbaseWork → Bool
has_ended w = is_ended w.rest && not w.failed

-- what is in hand is the buffer, or its merge; nothing is in hand of an empty one
abbrev pub HoldsBuffer : InHand → BufferState → Type 0
HoldsBuffer hand.Nothing b = b ≡ empty_buffer
HoldsBuffer (hand.Buffer held) b = held ≡ b
HoldsBuffer (hand.Merge m) b = m ≡ merge_of b

-- the buffer of a section where so many of its lines are passed
abbrev pub buffer_at : List BaseLine → ℕ → BufferState
buffer_at lines at = buffer_after (steps_since (take at (map (λ l. l.step) lines)))

-- the state of the database process over its section
abbrev pub dbase_state : List BaseLine → DbaseWork → DbaseState
dbase_state lines w = record { at = w.at; need = w.need; buffer = buffer_at lines w.at }

-- The lines left are those of the section behind the passed ones, and what is in hand is of the buffer there.
pub record StandsIn (lines : List BaseLine) (w : DbaseWork) : Type 0 where
  pub rest : drop w.at lines ≡ w.rest
  pub hand : HoldsBuffer w.hand (buffer_at lines w.at)

-- What the database process holds to, of its section and of the log that its desk has seen: its turns are the first of
-- the merges that the section asks for; as many frames were begun as the awaits passed ask for; by these it stands in the
-- section, and, unless it ended for want of memory, by the lines left too.
pub record DbaseHolds (lines : List BaseLine) (channels seat : ℕ) (w : DbaseWork) (log : Log) : Type 0 where
  pub keeps : DbaseKeeps lines channels seat (dbase_state lines w) log
  pub awaited : w.need ≤ (state_of channels log).frames
  pub stands : w.failed ≡ false → StandsIn lines w
  pub stands_in : StandsInDbase lines (dbase_state lines w)

-- what the database process holds to stays while the log grows by entries of which none is its own, under its number
abbrev pub HoldsOnLaw : Type 0
HoldsOnLaw =
    (lines : List BaseLine) (channels seat : ℕ) (w : DbaseWork) (seen more : Log) → DbaseHolds lines channels seat w seen →
    AllByRecursion (λ e. is_at seat Dbase e ≡ false) more → DbaseHolds lines channels seat w (seen ++ more)

-- any two proofs that it holds to this are equal, so that a type may keep one
abbrev pub HoldsFactLaw : Type 0
HoldsFactLaw =
    (lines : List BaseLine) (channels seat : ℕ) (w : DbaseWork) (log : Log) → IsProp (DbaseHolds lines channels seat w log)
