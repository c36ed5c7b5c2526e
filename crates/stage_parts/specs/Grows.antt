-- How the pipe invariant stands while lines are given to the sections of a play.
use Rattle.std.specs.Prelude.{◌≡◌, ℕ, max, ◌≤◌, Bool, true, false, List, [], ◌∷◌, ◌++◌, map, drop, length}
use Rattle.pf_model.specs.declared.lines.AppStep.{AppStep}
use Rattle.pf_model.specs.declared.lines.AppStep.TheVariants as app
use Rattle.pf_model.specs.declared.lines.AppLine.{AppLine}
use Rattle.pf_model.specs.declared.lines.BaseStep.{BaseStep}
use Rattle.pf_model.specs.declared.lines.BaseStep.TheVariants as base
use Rattle.pf_model.specs.declared.lines.BaseLine.{BaseLine}
use Rattle.pf_history.specs.Logs.{Log}
use Rattle.pf_history.specs.Asks.{asked_dbase}
use Rattle.stage_parts.specs.declared.packets.Packet.{Packet}
use Rattle.stage_parts.specs.States.{Setup, AppState, DbaseState, Seats, PipeState}
use Rattle.stage_parts.specs.Parts.{AppKeeps, DbaseKeeps}
use Rattle.stage_parts.specs.Pipes.{PipeFits}

-- whether a Sync stands since the last Frame behind these steps, where one stands before them or not
abbrev pub synced_by : Bool → List AppStep → Bool
synced_by synced [] = synced
synced_by synced (app.Edit e ∷ steps) = synced_by synced steps
synced_by synced (app.View channel v ∷ steps) = synced_by synced steps
synced_by synced (app.Sync ∷ steps) = synced_by true steps
synced_by synced (app.Frame ∷ steps) = synced_by false steps
synced_by synced (app.Wait n ∷ steps) = synced_by synced steps

-- the greatest await behind these steps, where those before them ask for this many frames
abbrev pub awaited_by : ℕ → List BaseStep → ℕ
awaited_by need [] = need
awaited_by need (base.Buffer ∷ steps) = awaited_by need steps
awaited_by need (base.Edit e ∷ steps) = awaited_by need steps
awaited_by need (base.Ask e ∷ steps) = awaited_by need steps
awaited_by need (base.Merge ∷ steps) = awaited_by need steps
awaited_by need (base.Await n ∷ steps) = awaited_by (max need n) steps

-- The application stands in a section: it passed no more lines than there are, and behind all of them a Sync stands since
-- the last Frame as the section says, by its own mark too.
pub record StandsInApp (lines : List AppLine) (a : AppState) : Type 0 where
  pub within : a.at ≤ length lines
  pub synced : synced_by a.synced (drop a.at (map (λ l. l.step) lines)) ≡ synced_by false (map (λ l. l.step) lines)

-- The database process stands in a section: it passed no more lines than there are, and the greatest await behind all of
-- them is the section's, by what it passed too.
pub record StandsInDbase (lines : List BaseLine) (d : DbaseState) : Type 0 where
  pub within : d.at ≤ length lines
  pub awaited : awaited_by d.need (drop d.at (map (λ l. l.step) lines)) ≡ awaited_by 0 (map (λ l. l.step) lines)

-- what the application is given, with more lines of its section, of a play with so many merges
abbrev pub with_lines : Setup → List AppLine → ℕ → Setup
with_lines g more merges = record g { lines = g.lines ++ more; merges = merges }

-- What APP keeps of its section, it keeps of the longer one, until it closes.
pub record AppGrows (g : Setup) (seat : ℕ) (a : AppState) (log : Log) (taken sent : List Packet) (stream : List ℕ)
    (more : List AppLine) (merges : ℕ) : Type 0 where
  pub keeps : AppKeeps (with_lines g more merges) seat a log taken sent stream
  pub stands : StandsInApp (g.lines ++ more) a

abbrev pub AppGrowsLaw : Type 0
AppGrowsLaw =
    (g : Setup) (seat : ℕ) (a : AppState) (log : Log) (taken sent : List Packet) (stream : List ℕ) (more : List AppLine) (merges : ℕ) →
    a.closed ≡ false → StandsInApp g.lines a → AppKeeps g seat a log taken sent stream →
    AppGrows g seat a log taken sent stream more merges

-- What DBASE keeps of its section, it keeps of the longer one.
pub record DbaseGrows (lines more : List BaseLine) (channels seat : ℕ) (d : DbaseState) (log : Log) : Type 0 where
  pub keeps : DbaseKeeps (lines ++ more) channels seat d log
  pub stands : StandsInDbase (lines ++ more) d

abbrev pub DbaseGrowsLaw : Type 0
DbaseGrowsLaw =
    (lines more : List BaseLine) (channels seat : ℕ) (d : DbaseState) (log : Log) → StandsInDbase lines d →
    DbaseKeeps lines channels seat d log → DbaseGrows lines more channels seat d log

-- A pipe that fits a play fits the longer one, and the sections are stood in as before.
pub record PipeGrows (g : Setup) (dbase : List BaseLine) (seats : Seats) (s : PipeState) (more : List AppLine)
    (more_dbase : List BaseLine) : Type 0 where
  pub fits : PipeFits (with_lines g more (length (asked_dbase (dbase ++ more_dbase)))) (dbase ++ more_dbase) seats s
  pub in_app : StandsInApp (g.lines ++ more) s.app
  pub in_dbase : StandsInDbase (dbase ++ more_dbase) s.dbase

abbrev pub PipeGrowsLaw : Type 0
PipeGrowsLaw =
    (g : Setup) (dbase : List BaseLine) (seats : Seats) (s : PipeState) (more : List AppLine) (more_dbase : List BaseLine) →
    s.app.closed ≡ false → StandsInApp g.lines s.app → StandsInDbase dbase s.dbase → PipeFits g dbase seats s →
    PipeGrows g dbase seats s more more_dbase
