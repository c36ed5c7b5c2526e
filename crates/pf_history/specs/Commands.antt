-- Commands: who makes them, and their edits.
use Rattle.std.specs.Prelude.{ℕ, Bool, true, false, length}
use Rattle.std.specs.List.{list_all}
use Rattle.pf_model.specs.Fits.{fits}
use Rattle.pf_history.specs.declared.commands.Caller.{Caller}
use Rattle.pf_history.specs.declared.commands.Caller.TheVariants.{App, Dbase}
use Rattle.pf_history.specs.declared.commands.Command.{Command}
use Rattle.pf_history.specs.declared.commands.Command.TheVariants as command

-- who makes a command: the database process exactly the merges
abbrev pub caller_of : Command → Caller
caller_of (command.Merge m) = Dbase
caller_of _ = App

-- whether a command is a Frame
abbrev pub is_frame : Command → Bool
is_frame command.Frame = true
is_frame _ = false

-- whether a command is a merge
abbrev pub is_merge : Command → Bool
is_merge (command.Merge m) = true
is_merge _ = false

-- whether the numbers of a command's edits are in the ranges of a play
abbrev pub command_fits : Command → Bool
command_fits (command.Edit e) = fits e
command_fits (command.Merge m) = list_all fits m.edits
command_fits _ = true

-- how many edits a command has
abbrev pub edit_count : Command → ℕ
edit_count (command.Edit e) = 1
edit_count (command.Merge m) = length m.edits
edit_count _ = 0
