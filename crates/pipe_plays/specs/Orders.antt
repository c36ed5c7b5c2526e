-- In what order a history has the commands of a play whose sections grow while it is played.
use Rattle.std.specs.Prelude.{◌≡◌, ℕ, Bool, true, false, List, [], ◌∷◌, ◌++◌, map, drop, length}
use Rattle.std.specs.List.{filter}
use Rattle.pf_model.specs.declared.lines.AppLine.{AppLine}
use Rattle.pf_model.specs.declared.lines.AppStep.{AppStep}
use Rattle.pf_model.specs.declared.lines.AppStep.TheVariants as app
use Rattle.pf_model.specs.declared.lines.BaseLine.{BaseLine}
use Rattle.pf_history.specs.declared.commands.Command.{Command}
use Rattle.pf_history.specs.declared.commands.Command.TheVariants as command
use Rattle.pf_history.specs.Asks.{WantClose, asked_dbase}
use Rattle.pf_history.specs.Fits.{FollowsPlay}
use Rattle.pf_history.specs.Logs.{Log}

-- whether a command is other than a Sync
abbrev pub is_no_sync : Command → Bool
is_no_sync (command.Sync r) = false
is_no_sync _ = true

-- the commands of a log in order, Syncs left out
abbrev pub commands_of : Log → List Command
commands_of log = filter is_no_sync (map (λ e. e.1.command) log)

-- the command that a step of the application makes: none at a Sync, of which the application adds its own, and at a wait
abbrev pub step_commands : AppStep → List Command
step_commands (app.Edit e) = command.Edit e ∷ []
step_commands (app.View channel v) = command.View channel v ∷ []
step_commands app.Frame = command.Frame ∷ []
step_commands app.Sync = []
step_commands (app.Wait n) = []

-- the commands of the application's lines
abbrev pub line_commands : List AppLine → List Command
line_commands [] = []
line_commands (l ∷ ls) = step_commands l.step ++ line_commands ls

-- the merges that more lines of the database process ask for, behind these
abbrev pub merges_behind : List BaseLine → List BaseLine → List Command
merges_behind dbase more =
    map (λ a. command.Merge a.merge) (drop (length (asked_dbase dbase)) (asked_dbase (dbase ++ more)))

-- All that the two sections ask for was made, but the closing Sync: it waits for so many merges.
pub record IsMade (channels ahead : ℕ) (app : List AppLine) (dbase : List BaseLine) (log : Log) : Type 0 where
  pub need : ℕ
  pub follows : FollowsPlay channels ahead app dbase log (record { need = need; wanted = WantClose } ∷ []) []

-- What a log gains once more lines were read and made: their commands, in order, behind all that were made before.
pub record IsInOrder (channels ahead : ℕ) (app : List AppLine) (dbase : List BaseLine) (log more : Log) : Type 0 where
  pub lines : (ls : List AppLine) → IsMade channels ahead (app ++ ls) dbase (log ++ more) →
      commands_of (log ++ more) ≡ commands_of log ++ line_commands ls
  pub block : (ls : List BaseLine) → IsMade channels ahead app (dbase ++ ls) (log ++ more) →
      commands_of (log ++ more) ≡ commands_of log ++ merges_behind dbase ls

abbrev pub OrderLaw : Type 0
OrderLaw =
    (channels ahead : ℕ) (app : List AppLine) (dbase : List BaseLine) (log more : Log) →
    IsMade channels ahead app dbase log → IsInOrder channels ahead app dbase log more
