-- The lines of the application's section, and how it goes through them.
use Rattle.std.specs.Prelude.{◌≡◌, ℕ, ◌+◌, ◌≤◌, Bool, true, false, not, if◌then◌else◌, List, [], ◌∷◌, length, drop, Option, None, Some}
use Rattle.pf_model.specs.declared.edits.Edit.{Edit}
use Rattle.pf_model.specs.declared.lines.AppStep.{AppStep}
use Rattle.pf_model.specs.declared.lines.AppStep.TheVariants as app
use Rattle.pf_model.specs.declared.lines.AppLine.{AppLine}
use Rattle.frame_stages.specs.declared.script.Next.{Next}
use Rattle.frame_stages.specs.declared.script.Next.TheVariants as next

-- The lines that are left, how many were passed, and the greatest wait among these.
pub record ScriptState : Type 0 where
  pub rest : List AppLine
  pub at : ℕ
  pub need : ℕ

-- the step of the first line that is left
abbrev pub next_step : List AppLine → Option AppStep
next_step [] = None
next_step (l ∷ lines) = Some l.step

-- what the next step is, its edit aside
abbrev pub IsNext : Next → Option AppStep → Type 0
IsNext next.Edit step = (e : Edit) × (step ≡ Some (app.Edit e))
IsNext (next.View channel v) step = step ≡ Some (app.View channel v)
IsNext next.Sync step = step ≡ Some app.Sync
IsNext next.Frame step = step ≡ Some app.Frame
IsNext (next.Wait n) step = step ≡ Some (app.Wait n)
IsNext next.Close step = step ≡ None

-- the next line is passed
abbrev pub passed : ScriptState → ScriptState
passed s = record s { rest = drop 1 s.rest; at = s.at + 1 }

-- a Sync is to be made: of a line of its own, or before a Frame, where none stands since the last one
abbrev pub SyncIsNext : (asked synced : Bool) → Option AppStep → Type 0
SyncIsNext true synced step = step ≡ Some app.Sync
SyncIsNext false synced step = (step ≡ Some app.Frame) × (synced ≡ false)

-- a Sync is due: for a line of its own, before a Frame where none stands since the last one, or at the end of the section
abbrev pub is_sync_due : Option AppStep → (synced : Bool) → Bool
is_sync_due None synced = true
is_sync_due (Some app.Sync) synced = true
is_sync_due (Some app.Frame) synced = not synced
is_sync_due (Some _) synced = false

-- how many lines the next entry passes: a Sync before a Frame, or at the end of the section, has none of its own
abbrev pub own_lines : Option AppStep → (synced : Bool) → ℕ
own_lines None synced = 0
own_lines (Some app.Frame) synced = if synced then 1 else 0
own_lines (Some _) synced = 1

-- a Sync was made: its own line is passed
abbrev pub synced_script : Bool → ScriptState → ScriptState
synced_script true s = passed s
synced_script false s = s

-- the step of the first of these lines was exchanged with another one
abbrev pub Exchanged : List AppLine → (put got : AppStep) → List AppLine → Type 0
Exchanged [] put got after = ⊥
Exchanged (l ∷ lines) put got after = (got ≡ l.step) × (after ≡ record l { step = put } ∷ lines)

-- a section has at most 2^31 lines, those included that were passed
abbrev pub most_lines : ℕ
most_lines = 2147483648

-- So many lines were passed, and these are left.
pub record IsScript (rest : List AppLine) (at : ℕ) : Type 0 where
  pub few : at + length rest ≤ most_lines
