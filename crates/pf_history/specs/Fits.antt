-- When a history fits a play.
use Rattle.std.specs.Prelude.{◌≡◌, ⊤, ℕ, ◌+◌, ◌<◌, ◌≤◌, List, length}
use Rattle.std.specs.List.{AllByRecursion, zip}
use Rattle.pf_model.specs.declared.lines.AppLine.{AppLine}
use Rattle.pf_model.specs.declared.lines.BaseLine.{BaseLine}
use Rattle.pf_history.specs.declared.commands.Caller.{Caller}
use Rattle.pf_history.specs.declared.commands.Caller.TheVariants.{App, Dbase}
use Rattle.pf_history.specs.declared.commands.Command.{Command}
use Rattle.pf_history.specs.declared.commands.Command.TheVariants as command
use Rattle.pf_history.specs.Objects.{FrameState, opening_state}
use Rattle.pf_history.specs.Logs.{Log, is_by, own}
use Rattle.pf_history.specs.Asks.{Ask, Wanted, WantEdit, WantView, WantSync, WantFrame, WantClose, BaseAsk, Turn, asked_app, asked_dbase, turns_from, is_at, Follows, FollowsBase}

-- the turns of a caller
abbrev pub turns_of : ℕ → Caller → Log → List Turn
turns_of channels caller log = turns_from (is_by caller) (opening_state channels) log

-- the turns that a seat makes for a caller
abbrev pub turns_at : ℕ → ℕ → Caller → Log → List Turn
turns_at channels seat caller log = turns_from (is_at seat caller) (opening_state channels) log

-- a command is the one asked for; a Sync may have any number
abbrev pub Fills : Wanted → Command → Type 0
Fills (WantEdit e) c = c ≡ command.Edit e
Fills (WantView channel v) c = c ≡ command.View channel v
Fills WantSync (command.Sync r) = ⊤
Fills WantFrame command.Frame = ⊤
Fills WantClose (command.Sync r) = ⊤
Fills _ _ = ⊥

-- commands that are the first of what is asked of the application, with a number filled in at each Sync
pub record IsFrontOfApp (commands : List Command) (asks : List Ask) : Type 0 where
  pub short : length commands ≤ length asks
  pub filled : AllByRecursion (λ p. Fills p.0.wanted p.1) (zip asks commands)

-- commands that are the first merges asked of the database process
pub record IsFrontOfDbase (commands : List Command) (asks : List BaseAsk) : Type 0 where
  pub short : length commands ≤ length asks
  pub same : AllByRecursion (λ p. p.1 ≡ command.Merge p.0.merge) (zip asks commands)

-- each entry of the application stands behind as many merges as the waits before it ask for
abbrev pub HasWaited : List Ask → List Turn → Type 0
HasWaited asks turns = AllByRecursion (λ p. p.0.need ≤ p.1.found.merges) (zip asks turns)

-- each merge stands behind as many frames as the awaits before it ask for
abbrev pub HasAwaited : List BaseAsk → List Turn → Type 0
HasAwaited asks turns = AllByRecursion (λ p. p.0.need ≤ p.1.found.frames) (zip asks turns)

-- a Sync that does not close leaves fewer frames in flight than may be ahead
abbrev pub LeavesRoom : ℕ → Wanted → FrameState → Command → Type 0
LeavesRoom ahead WantSync s (command.Sync r) = s.frames < r + ahead
LeavesRoom ahead _ s _ = ⊤

-- the closing Sync retires all frames, and all merges of the play stand before it
abbrev pub Closes : ℕ → Wanted → FrameState → Command → Type 0
Closes merges WantClose s (command.Sync r) = (r ≡ s.frames) × (merges ≤ s.merges)
Closes merges _ s _ = ⊤

-- a Frame finds fewer frames in flight than may be ahead
abbrev pub FindsRoom : ℕ → FrameState → Command → Type 0
FindsRoom ahead s command.Frame = s.frames < s.retired + ahead
FindsRoom ahead s _ = ⊤

-- each turn is as P asks of it, by what it was asked for
abbrev pub EachMade : (Wanted → FrameState → Command → Type 0) → List Ask → List Turn → Type 0
EachMade P asks turns = AllByRecursion (λ p. P p.0.wanted p.1.found p.1.made) (zip asks turns)

-- A log fits a play's two sections, with this many channels and frames in flight.
pub record FitsPlay (channels ahead : ℕ) (app : List AppLine) (dbase : List BaseLine) (log : Log) : Type 0 where
  pub app_in_order : IsFrontOfApp (own App log) (asked_app app)
  pub dbase_in_order : IsFrontOfDbase (own Dbase log) (asked_dbase dbase)
  pub app_waited : HasWaited (asked_app app) (turns_of channels App log)
  pub dbase_awaited : HasAwaited (asked_dbase dbase) (turns_of channels Dbase log)
  pub syncs_leave_room : EachMade (LeavesRoom ahead) (asked_app app) (turns_of channels App log)
  pub close_is_last : EachMade (Closes (length (asked_dbase dbase))) (asked_app app) (turns_of channels App log)
  pub frames_find_room : AllByRecursion (λ t. FindsRoom ahead t.found t.made) (turns_of channels App log)

-- It fits, and all that the play asks for was made.
pub record FitsWholly (channels ahead : ℕ) (app : List AppLine) (dbase : List BaseLine) (log : Log) : Type 0 where
  pub fits : FitsPlay channels ahead app dbase log
  pub whole_app : length (own App log) ≡ length (asked_app app)
  pub whole_dbase : length (own Dbase log) ≡ length (asked_dbase dbase)

-- The relation that the stages keep: what was made of each section is the first of what it asks, each where it may be
-- made, and these are still asked.
pub record FollowsPlay (channels ahead : ℕ) (app : List AppLine) (dbase : List BaseLine) (log : Log)
    (left_app : List Ask) (left_dbase : List BaseAsk) : Type 0 where
  pub follows_app : Follows ahead (length (asked_dbase dbase)) (asked_app app) (turns_of channels App log) left_app
  pub follows_dbase : FollowsBase (asked_dbase dbase) (turns_of channels Dbase log) left_dbase
