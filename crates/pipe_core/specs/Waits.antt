-- Why an event changes nothing.
use Rattle.std.specs.Prelude.{◌≡◌, ◌⊎◌, ℕ, ◌+◌, ◌<◌, ◌≤◌, Bool, true, false, length, slice_get, Option, Some, None, MatchOption}
use Rattle.std.specs.Option.{option_map}
use Rattle.pf_model.specs.declared.lines.AppStep.{AppStep}
use Rattle.pf_model.specs.declared.lines.AppStep.TheVariants as app
use Rattle.pf_model.specs.declared.lines.BaseStep.{BaseStep}
use Rattle.pf_model.specs.declared.lines.BaseStep.TheVariants as base
use Rattle.pf_history.specs.Asks.{asked_dbase, merge_of}
use Rattle.play_format.specs.Plays.{Script}
use Rattle.pf_scene.specs.Scenes.{Shared, state_in}
use Rattle.pf_scene.specs.Acts.{MayEdit, MayMerge, MayView, MaySync, MayFrame}
use Rattle.stage_parts.specs.declared.packets.Packet.{Packet}
use Rattle.stage_parts.specs.States.{Line, PipeState}
use Rattle.pipe_core.specs.declared.events.Event.{Event}
use Rattle.pipe_core.specs.declared.events.Event.TheVariants as event
use Rattle.pipe_core.specs.Cores.{CoreState, HasEnded}

-- the link, which has room for one packet more than frames may be in flight, is full
abbrev pub IsLineFull : ℕ → Line → Type 0
IsLineFull ahead l = length l.taken + (ahead + 1) ≤ length l.sent

-- all that was sent over the link was received
abbrev pub IsLineDry : Line → Type 0
IsLineDry l = l.sent ≡ l.taken

-- what the stages share of a core
abbrev pub shared_of : Script → ℕ → CoreState → Shared
shared_of play ahead s =
    record { log = s.pipe.log; seat = 0; stopped = s.stopped; ahead = ahead; channels = play.channels }

-- A Sync waits: no picture comes back, and as many frames are undelivered as may be ahead; or the scene can't take it.
abbrev pub SyncMustWait : Shared → PipeState → Type 0
SyncMustWait shared s = (IsLineDry s.c × (s.app.written + shared.ahead ≤ s.app.frames)) ⊎ (MaySync shared s.app.written → ⊥)

-- a Frame waits: for a Sync before it, where none stands since the last Frame; or the scene can't take it
abbrev pub FrameMustWait : Bool → Shared → PipeState → Type 0
FrameMustWait false shared s = SyncMustWait shared s
FrameMustWait true shared s = MayFrame shared shared.ahead shared.channels → ⊥

-- The close waits: not all merges of the play were made; or no picture comes back, and not all frames are delivered; or
-- the scene can't take the closing Sync.
abbrev pub CloseMustWait : ℕ → Shared → PipeState → Type 0
CloseMustWait merges shared s =
    ((state_in shared).merges < merges) ⊎ (IsLineDry s.c × (s.app.written < s.app.frames)) ⊎ (MaySync shared s.app.written → ⊥)

-- the application's next step waits, where the play has so many merges; behind the last one, the close
abbrev pub StepMustWait : ℕ → Shared → PipeState → Option AppStep → Type 0
StepMustWait merges shared s (Some (app.Edit e)) = MayEdit shared e → ⊥
StepMustWait merges shared s (Some (app.View channel v)) = MayView shared channel v → ⊥
StepMustWait merges shared s (Some app.Sync) = SyncMustWait shared s
StepMustWait merges shared s (Some app.Frame) = FrameMustWait s.app.synced shared s
StepMustWait merges shared s (Some (app.Wait n)) = (state_in shared).merges < n
StepMustWait merges shared s None = CloseMustWait merges shared s

-- the next step of the database process waits: for frames, or since the scene can't take its merge
abbrev pub BaseStepMustWait : Shared → PipeState → Option BaseStep → Type 0
BaseStepMustWait shared s (Some (base.Await n)) = (state_in shared).frames < n
BaseStepMustWait shared s (Some base.Merge) = MayMerge shared (merge_of s.dbase.buffer) → ⊥
BaseStepMustWait shared s _ = ⊥

-- a stage that takes packets and passes them on waits: its link is full, where it holds a packet, or else none came
abbrev pub PassingMustWait : ℕ → Option Packet → (from to : Line) → Type 0
PassingMustWait ahead held from to = MatchOption held (IsLineDry from) (λ _. IsLineFull ahead to)

-- The stage that an event polls has to wait.
abbrev pub MustWait : Script → ℕ → Event → CoreState → Type 0
MustWait play ahead event.App s =
    MatchOption s.pipe.app.held
    (StepMustWait (length (asked_dbase play.dbase)) (shared_of play ahead s) s.pipe
    (option_map (λ l. l.step) (slice_get play.app s.pipe.app.at)))
    (λ _. IsLineFull ahead s.pipe.a)
MustWait play ahead event.Cull s = PassingMustWait ahead s.pipe.cull.held s.pipe.a s.pipe.b
MustWait play ahead event.Draw s = PassingMustWait ahead s.pipe.draw.held s.pipe.b s.pipe.c
MustWait play ahead event.Dbase s =
    BaseStepMustWait (shared_of play ahead s) s.pipe (option_map (λ l. l.step) (slice_get play.dbase s.pipe.dbase.at))

-- The stage that an event polls is over: it has ended, or the stop mark is set.
abbrev pub IsOver : Script → Event → CoreState → Type 0
IsOver play e s = HasEnded play e s.pipe ⊎ (s.stopped ≡ true)

-- an event changes nothing: the stage that it polls is over, or has to wait
abbrev pub IsIdleEvent : Script → ℕ → Event → CoreState → Type 0
IsIdleEvent play ahead e s = IsOver play e s ⊎ MustWait play ahead e s
