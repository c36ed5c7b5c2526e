-- Runs of the one-thread object: commands that one thread makes one after the other.
use Rattle.std.specs.Prelude.{◌≡◌, ⊤, ◌+◌, ◌-◌, ◌^◌, ◌<◌, true, List, [], ◌∷◌, length}
use Rattle.std.specs.List.{fold, list_all, sum_by}
use Rattle.pf_history.specs.declared.commands.Command.{Command}
use Rattle.pf_history.specs.Objects.{FrameState, next_state}
use Rattle.pf_history.specs.Commands.{command_fits, edit_count}
use Rattle.pf_history.specs.Logs.{Log, CanMake, entry_of}

-- A command can be counted in a state: the number of the next serial stays below 2 ^ 32, and so do the numbers of the
-- frame in preparation and of the merges made.
pub record CanCount (s : FrameState) (c : Command) : Type 0 where
  pub serials : s.graph.next_serial + edit_count c < 2 ^ 32
  pub frames : s.frames < 2 ^ 32 - 2
  pub merges : s.merges < 2 ^ 32 - 1

-- Commands that one run may make: the numbers of their edits are in the ranges of a play, and edits and commands can be
-- counted.
pub record CanRun (commands : List Command) : Type 0 where
  pub fits : list_all command_fits commands ≡ true
  pub serials : sum_by edit_count commands < 2 ^ 32 - 1
  pub frames : length commands < 2 ^ 32 - 2

-- the state that commands leave
abbrev pub state_behind : FrameState → List Command → FrameState
state_behind s commands = fold next_state s commands

-- the object's own entries for commands, from a state on, all made by the seat 0
abbrev pub entries_from : FrameState → List Command → Log
entries_from s [] = []
entries_from s (c ∷ cs) = (0, entry_of s c) ∷ entries_from (next_state s c) cs

-- each command can be made in the state that those before it leave
abbrev pub CanMakeEach : FrameState → List Command → Type 0
CanMakeEach s [] = ⊤
CanMakeEach s (c ∷ cs) = CanMake s c × CanMakeEach (next_state s c) cs
