-- Laws of the states that a log reaches, and of legal histories.
use Rattle.std.specs.Prelude.{◌≡◌, ℕ, ◌+◌, ◌≤◌, true, [], ◌∷◌, ◌++◌, slice_get, Some}
use Rattle.std.specs.List.{AllByRecursion}
use Rattle.pf_model.specs.Limits.{IsGraphWithinLimits}
use Rattle.pf_history.specs.declared.commands.Command.{Command}
use Rattle.pf_history.specs.declared.commands.Entry.{Entry}
use Rattle.pf_history.specs.Commands.{is_frame, is_merge, command_fits}
use Rattle.pf_history.specs.Objects.{next_state}
use Rattle.pf_history.specs.Logs.{Log, state_of, state_at, CanMake, IsLegal, entry_of, how_many}

-- the object's own entry for a command after a log, made by a seat
abbrev pub own_entry : ℕ → Log → ℕ → Command → ℕ × Entry
own_entry channels log seat c = (seat, entry_of (state_of channels log) c)

-- A log with the object's own entry for a command at its end is legal, and its state is one step further.
pub record AddsOwnEntry (channels : ℕ) (log : Log) (seat : ℕ) (c : Command) : Type 0 where
  pub legal : IsLegal channels (log ++ own_entry channels log seat c ∷ [])
  pub moved : state_of channels (log ++ own_entry channels log seat c ∷ []) ≡ next_state (state_of channels log) c

abbrev pub OwnEntryLaw : Type 0
OwnEntryLaw =
    (channels : ℕ) (log : Log) (seat : ℕ) (c : Command) →
    IsLegal channels log → CanMake (state_of channels log) c → AddsOwnEntry channels log seat c

-- The entry at a place of a log is the object's own for its command there, and the command could be made there.
pub record IsOwnThere (channels : ℕ) (log : Log) (j : ℕ) (e : Entry) : Type 0 where
  pub own : e ≡ entry_of (state_at channels log j) e.command
  pub can : CanMake (state_at channels log j) e.command

-- each entry of a legal log is the object's own at its place
abbrev pub LegalEntryLaw : Type 0
LegalEntryLaw =
    (channels : ℕ) (log : Log) (j : ℕ) (e : ℕ × Entry) →
    IsLegal channels log → slice_get log j ≡ Some e → IsOwnThere channels log j e.1

-- the number of the frame in preparation is the number of frames begun, plus one
abbrev pub PreparationLaw : Type 0
PreparationLaw = (channels : ℕ) (log : Log) → (state_of channels log).graph.time ≡ (state_of channels log).frames + 1

-- The counts of a state are those of the log: the frames begun, and the merges made, refused ones included; and in a
-- legal history no more frames are retired than were begun.
pub record AreCounts (channels : ℕ) (log : Log) : Type 0 where
  pub frames : (state_of channels log).frames ≡ how_many is_frame log
  pub merges : (state_of channels log).merges ≡ how_many is_merge log
  pub retired : IsLegal channels log → (state_of channels log).retired ≤ (state_of channels log).frames

abbrev pub CountsLaw : Type 0
CountsLaw = (channels : ℕ) (log : Log) → AreCounts channels log

-- The counts of a state never fall while the log grows; that of retired frames, while the log stays legal.
pub record NeverFall (channels : ℕ) (log more : Log) : Type 0 where
  pub frames : (state_of channels log).frames ≤ (state_of channels (log ++ more)).frames
  pub merges : (state_of channels log).merges ≤ (state_of channels (log ++ more)).merges
  pub retired : IsLegal channels (log ++ more) →
      (state_of channels log).retired ≤ (state_of channels (log ++ more)).retired

abbrev pub NeverFallLaw : Type 0
NeverFallLaw = (channels : ℕ) (log more : Log) → NeverFall channels log more

-- the last frame of each grave was begun
abbrev pub GravesLaw : Type 0
GravesLaw =
    (channels : ℕ) (log : Log) →
    AllByRecursion (λ g. g.last ≤ (state_of channels log).frames) (state_of channels log).graves

-- where the edits of a log have their numbers in range, its graph is within the limits
abbrev pub LimitsLaw : Type 0
LimitsLaw =
    (channels : ℕ) (log : Log) →
    AllByRecursion (λ e. command_fits e.1.command ≡ true) log → IsGraphWithinLimits (state_of channels log).graph

-- no reply reads a view, so a history that is legal for one number of channels is legal for every other
abbrev pub ChannelsLaw : Type 0
ChannelsLaw = (channels others : ℕ) (log : Log) → IsLegal channels log → IsLegal others log
