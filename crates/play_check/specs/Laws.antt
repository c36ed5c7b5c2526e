-- Laws of the orders of a play.
use Rattle.std.specs.Prelude.{ℕ, ◌+◌, ◌<◌, ◌≤◌, List, ◌++◌, map, length, drop}
use Rattle.pf_model.specs.declared.lines.AppLine.{AppLine}
use Rattle.pf_model.specs.declared.lines.BaseLine.{BaseLine}
use Rattle.pf_history.specs.declared.commands.Caller.{Caller}
use Rattle.pf_history.specs.declared.commands.Caller.TheVariants.{App, Dbase}
use Rattle.pf_history.specs.Asks.{asked_app, asked_dbase}
use Rattle.pf_history.specs.Logs.{Log, own, state_of}
use Rattle.pf_history.specs.Fits.{FitsPlay}
use Rattle.play_check.specs.Lines.{app_marks, base_marks, total, Stands}
use Rattle.play_check.specs.Orders.{Standing, IsOrder, app_dues, base_dues, within}
use Rattle.play_check.specs.Stuck.{IsStuck}

-- Where at most f Frames are asked for that wait for at most m Merges, and at most m Merges that wait for at most f
-- Frames, no order has more than f Frames or more than m Merges.
abbrev pub NoFurtherLaw : Type 0
NoFurtherLaw = (app : List AppLine) (dbase : List BaseLine) (f m : ℕ)
    → within m (app_dues (asked_app app)) ≤ f → within f (base_dues (asked_dbase dbase)) ≤ m
    → (order : List Caller) (end : Standing) → IsOrder app dbase order end → (end.frames ≤ f) × (end.merges ≤ m)

-- Two sections, of which some lines are passed. The application is over, or waits for more Merges than there are; the
-- database process is over, or waits for more Frames than there are; and there are at least those of the lines passed.
-- If a line is left, the play is stuck.
abbrev pub WaitingLaw : Type 0
WaitingLaw = (app_passed app_left : List AppLine) (dbase_passed dbase_left : List BaseLine) (frames merges : ℕ)
    → total (app_marks app_passed) ≤ frames → total (base_marks dbase_passed) ≤ merges
    → Stands merges (app_marks app_left) → Stands frames (base_marks dbase_left)
    → 0 < length app_left + length dbase_left
    → IsStuck (app_passed ++ app_left) (dbase_passed ++ dbase_left)

-- where the callers of a history that fits stand at its end
abbrev pub standing_after : ℕ → List AppLine → List BaseLine → Log → Standing
standing_after channels app dbase log = record {
  app = app_dues (drop (length (own App log)) (asked_app app));
  dbase = base_dues (drop (length (own Dbase log)) (asked_dbase dbase));
  frames = (state_of channels log).frames;
  merges = (state_of channels log).merges;
}

-- The callers of a history that fits a play are an order of the play.
abbrev pub HistoryLaw : Type 0
HistoryLaw = (channels ahead : ℕ) (app : List AppLine) (dbase : List BaseLine) (log : Log)
    → FitsPlay channels ahead app dbase log
    → IsOrder app dbase (map (λ e. e.1.caller) log) (standing_after channels app dbase log)
