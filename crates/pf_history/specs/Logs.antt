-- Histories: what a list of entries leaves of the one-thread object, and whether its replies are the object's.
use Rattle.std.specs.Prelude.{◌≡◌, ⊤, ℕ, ◌+◌, ◌≤◌, Bool, true, false, Option, Some, None, List, [], ◌∷◌, map, take, drop, length}
use Rattle.std.specs.List.{fold, filter}
use Rattle.pf_history.specs.declared.commands.Caller.{Caller}
use Rattle.pf_history.specs.declared.commands.Caller.TheVariants.{App, Dbase}
use Rattle.pf_history.specs.declared.commands.Command.{Command}
use Rattle.pf_history.specs.declared.commands.Command.TheVariants as command
use Rattle.pf_history.specs.declared.commands.Entry.{Entry}
use Rattle.pf_history.specs.Commands.{caller_of}
use Rattle.pf_history.specs.Objects.{FrameState, opening_state, reply_of, next_state}

-- A log: entries in order, each beside the number of the seat that made it.
abbrev pub Log : Type 0
Log = List (ℕ × Entry)

-- A history that is being made: its entries, how many of them were told (the oldest ones), and how many more have room.
pub record Recorded : Type 0 where
  pub entries : Log
  pub told : ℕ
  pub spare : ℕ

-- the oldest entry that was not told is told now; or all were told before, and nothing changed
abbrev pub HasTold : Recorded → Recorded → Option (ℕ × Entry) → Type 0
HasTold old new (Some e) =
    (new.entries ≡ old.entries) × (new.told ≡ old.told + 1) × (drop old.told old.entries ≡ e ∷ drop new.told old.entries)
HasTold old new None = (new.entries ≡ old.entries) × (new.told ≡ old.told) × (old.told ≡ length old.entries)

-- the state after a log, from a state on
abbrev pub state_after : FrameState → Log → FrameState
state_after s log = fold (λ s e. next_state s e.1.command) s log

-- the state after a whole log, with so many channels
abbrev pub state_of : ℕ → Log → FrameState
state_of channels log = state_after (opening_state channels) log

-- the state after the first j entries of a log
abbrev pub state_at : ℕ → Log → ℕ → FrameState
state_at channels log j = state_of channels (take j log)

-- a Sync retires frames that were begun, and takes none back
abbrev pub CanMake : FrameState → Command → Type 0
CanMake s (command.Sync r) = (s.retired ≤ r) × (r ≤ s.frames)
CanMake s _ = ⊤

-- an entry that the object would make in this state
pub record IsLegalEntry (s : FrameState) (e : Entry) : Type 0 where
  pub reply : e.reply ≡ reply_of s e.command
  pub sync : CanMake s e.command
  pub caller : e.caller ≡ caller_of e.command

-- each entry is one that the object would make in the state that those before it leave
abbrev pub IsLegalFrom : FrameState → Log → Type 0
IsLegalFrom s [] = ⊤
IsLegalFrom s (e ∷ es) = IsLegalEntry s e.1 × IsLegalFrom (next_state s e.1.command) es

abbrev pub IsLegal : ℕ → Log → Type 0
IsLegal channels log = IsLegalFrom (opening_state channels) log

-- the object's own entry for a command
abbrev pub entry_of : FrameState → Command → Entry
entry_of s c = record { caller = caller_of c; command = c; reply = reply_of s c }

abbrev pub is_caller : Caller → Caller → Bool
is_caller App App = true
is_caller Dbase Dbase = true
is_caller _ _ = false

-- the entry is this caller's
abbrev pub is_by : Caller → ℕ × Entry → Bool
is_by caller e = is_caller caller e.1.caller

-- the commands of a caller, in order
abbrev pub own : Caller → Log → List Command
own caller log = map (λ e. e.1.command) (filter (is_by caller) log)

-- how many commands of a log pass a test
abbrev pub how_many : (Command → Bool) → Log → ℕ
how_many test log = length (filter (λ e. test e.1.command) log)
