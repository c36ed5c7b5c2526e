-- What a play asks of its two callers, and what they made of it.
use Rattle.std.specs.Prelude.{◌≡◌, ℕ, ◌+◌, max, ◌<◌, ◌≤◌, Bool, true, false, ◌&&◌, ◌==◌, List, [], ◌∷◌, ◌++◌, map, if◌then◌else◌}
use Rattle.pf_model.specs.Angles.{Viewpoint}
use Rattle.pf_model.specs.declared.edits.Edit.{Edit}
use Rattle.pf_model.specs.declared.lines.AppStep.{AppStep}
use Rattle.pf_model.specs.declared.lines.AppStep.TheVariants as app
use Rattle.pf_model.specs.declared.lines.AppLine.{AppLine}
use Rattle.pf_model.specs.declared.lines.BaseStep.{BaseStep}
use Rattle.pf_model.specs.declared.lines.BaseStep.TheVariants as base
use Rattle.pf_model.specs.declared.lines.BaseLine.{BaseLine}
use Rattle.pf_model.specs.Merges.{BufferState, buffer_after}
use Rattle.pf_history.specs.declared.commands.Caller.{Caller}
use Rattle.pf_history.specs.declared.commands.Command.{Command}
use Rattle.pf_history.specs.declared.commands.Command.TheVariants as command
use Rattle.pf_history.specs.declared.commands.Merge.{Merge}
use Rattle.pf_history.specs.declared.commands.Entry.{Entry}
use Rattle.pf_history.specs.Objects.{FrameState, next_state}
use Rattle.pf_history.specs.Logs.{Log, is_caller}

-- What is asked

-- A command that the application is asked for: an edit, a view, a Sync, a Frame, or the closing Sync.
pub data Wanted : Type 0 where
  WantEdit : Edit → Wanted
  WantView : ℕ → Viewpoint → Wanted
  WantSync : Wanted
  WantFrame : Wanted
  WantClose : Wanted
  deriving IsSet as Wanted_set

-- A command that the application is asked for, and how many merges the waits before it ask for.
pub record Ask : Type 0 where
  pub need : ℕ
  pub wanted : Wanted

-- what the steps of the application ask for, where the waits so far ask for this many merges, and a Sync stands since
-- the last Frame or not
abbrev pub asked_from : ℕ → Bool → List AppStep → List Ask
asked_from need synced [] = record { need = need; wanted = WantClose } ∷ []
asked_from need synced (app.Edit e ∷ steps) =
    record { need = need; wanted = WantEdit e } ∷ asked_from need synced steps
asked_from need synced (app.View channel v ∷ steps) =
    record { need = need; wanted = WantView channel v } ∷ asked_from need synced steps
asked_from need synced (app.Sync ∷ steps) = record { need = need; wanted = WantSync } ∷ asked_from need true steps
asked_from need true (app.Frame ∷ steps) = record { need = need; wanted = WantFrame } ∷ asked_from need false steps
asked_from need false (app.Frame ∷ steps) =
    record { need = need; wanted = WantSync } ∷ record { need = need; wanted = WantFrame }
    ∷ asked_from need false steps
asked_from need synced (app.Wait n ∷ steps) = asked_from (max need n) synced steps

-- what a section asks of the application
abbrev pub asked_app : List AppLine → List Ask
asked_app lines = asked_from 0 false (map (λ l. l.step) lines)

-- A merge that the database process is asked for, and how many frames the awaits before it ask for.
pub record BaseAsk : Type 0 where
  pub need : ℕ
  pub merge : Merge

-- the merge of a buffer
abbrev pub merge_of : BufferState → Merge
merge_of b = record { edits = b.edits; dropped = b.dropped }

-- what the steps of the database process ask for, where the awaits so far ask for this many frames, and these steps
-- stand since the buffer was opened
abbrev pub asked_base_from : ℕ → List BaseStep → List BaseStep → List BaseAsk
asked_base_from need since [] = []
asked_base_from need since (base.Buffer ∷ steps) = asked_base_from need [] steps
asked_base_from need since (base.Edit e ∷ steps) = asked_base_from need (since ++ base.Edit e ∷ []) steps
asked_base_from need since (base.Ask e ∷ steps) = asked_base_from need (since ++ base.Ask e ∷ []) steps
asked_base_from need since (base.Merge ∷ steps) =
    record { need = need; merge = merge_of (buffer_after since) } ∷ asked_base_from need [] steps
asked_base_from need since (base.Await n ∷ steps) = asked_base_from (max need n) since steps

-- what a section asks of the database process
abbrev pub asked_dbase : List BaseLine → List BaseAsk
asked_dbase lines = asked_base_from 0 [] (map (λ l. l.step) lines)

-- What was made

-- A turn: a command, and the state that it found.
pub record Turn : Type 0 where
  pub found : FrameState
  pub made : Command

-- the entries of a log that pass a test, as turns, from a state on
abbrev pub turns_from : (ℕ × Entry → Bool) → FrameState → Log → List Turn
turns_from test s [] = []
turns_from test s (e ∷ es) =
    if test e then record { found = s; made = e.1.command } ∷ turns_from test (next_state s e.1.command) es
    else turns_from test (next_state s e.1.command) es

-- the entry is this caller's, made by the seat of this number
abbrev pub is_at : ℕ → Caller → ℕ × Entry → Bool
is_at seat caller e = e.0 == seat && is_caller caller e.1.caller

-- What was made of what is asked

-- an ask is met by a command that found this state, where so many frames may be in flight and the play has so many
-- merges
abbrev pub Meets : ℕ → ℕ → Wanted → FrameState → Command → Type 0
Meets ahead merges (WantEdit e) s c = c ≡ command.Edit e
Meets ahead merges (WantView channel v) s c = c ≡ command.View channel v
Meets ahead merges WantSync s (command.Sync r) = s.frames < r + ahead
Meets ahead merges WantFrame s command.Frame = s.frames < s.retired + ahead
Meets ahead merges WantClose s (command.Sync r) = (r ≡ s.frames) × (merges ≤ s.merges)
Meets ahead merges _ s _ = ⊥

-- the turns are the first of what is asked, each made where it may be, and `left` is still asked
abbrev pub Follows : ℕ → ℕ → List Ask → List Turn → List Ask → Type 0
Follows ahead merges asks [] left = asks ≡ left
Follows ahead merges [] (t ∷ ts) left = ⊥
Follows ahead merges (a ∷ asks) (t ∷ ts) left =
    Meets ahead merges a.wanted t.found t.made × (a.need ≤ t.found.merges) × Follows ahead merges asks ts left

-- the same of the database process
abbrev pub FollowsBase : List BaseAsk → List Turn → List BaseAsk → Type 0
FollowsBase asks [] left = asks ≡ left
FollowsBase [] (t ∷ ts) left = ⊥
FollowsBase (a ∷ asks) (t ∷ ts) left =
    (t.made ≡ command.Merge a.merge) × (a.need ≤ t.found.frames) × FollowsBase asks ts left
