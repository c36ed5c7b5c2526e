-- A core whose play may still grow: when nothing of it can go on, and what was done then.
use Rattle.std.specs.Prelude.{◌≡◌, ◌⊎◌, ⊤, ℕ, ◌<◌, ◌≤◌, false, length, slice_get, Option, Some, None, MatchOption}
use Rattle.std.specs.Option.{option_map}
use Rattle.pf_model.specs.declared.lines.AppStep.{AppStep}
use Rattle.pf_history.specs.Asks.{asked_dbase}
use Rattle.play_check.specs.Stuck.{IsStuck}
use Rattle.play_format.specs.Plays.{Script}
use Rattle.pf_scene.specs.Scenes.{Shared}
use Rattle.stage_parts.specs.Gathering.{IsDrained}
use Rattle.stage_parts.specs.States.{PipeState}
use Rattle.pipe_core.specs.declared.events.Event.TheVariants as event
use Rattle.pipe_plays.specs.Plays.{CanRun}
use Rattle.pipe_core.specs.Cores.{CoreState, CoreFits, HasEnded}
use Rattle.pipe_core.specs.Waits.{IsLineFull, IsLineDry, StepMustWait, MustWait, shared_of}

-- the application's next step waits; behind the last line it waits for the next one to be read
abbrev pub NextMustWait : ℕ → Shared → PipeState → Option AppStep → Type 0
NextMustWait merges shared s None = ⊤
NextMustWait merges shared s (Some step) = StepMustWait merges shared s (Some step)

-- the application waits while more lines may be read: its link is full, where it holds a packet, or else its next step
-- waits
abbrev pub AppMustWait : Script → ℕ → CoreState → Type 0
AppMustWait play ahead s =
    MatchOption s.pipe.app.held
    (NextMustWait (length (asked_dbase play.dbase)) (shared_of play ahead s) s.pipe
    (option_map (λ l. l.step) (slice_get play.app s.pipe.app.at)))
    (λ _. IsLineFull ahead s.pipe.a)

-- Nothing can go on before more lines are read: the application has not closed and waits, no picture that is due comes
-- back, and each other stage has ended or waits.
pub record IsIdleOpen (play : Script) (ahead : ℕ) (s : CoreState) : Type 0 where
  pub going : s.pipe.app.closed ≡ false
  pub app : AppMustWait play ahead s
  pub back : s.pipe.app.written < s.pipe.app.frames → IsLineDry s.pipe.c
  pub cull : HasEnded play event.Cull s.pipe ⊎ MustWait play ahead event.Cull s
  pub draw : HasEnded play event.Draw s.pipe ⊎ MustWait play ahead event.Draw s
  pub dbase : HasEnded play event.Dbase s.pipe ⊎ MustWait play ahead event.Dbase s

-- No packet is under way, each frame that was begun is wholly written, and all lines were passed, or the lines read so far
-- are stuck.
pub record IsSettled (play : Script) (s : CoreState) : Type 0 where
  pub drained : IsDrained s.pipe
  pub written : s.pipe.app.written ≡ s.pipe.app.frames
  pub done : ((length play.app ≤ s.pipe.app.at) × (length play.dbase ≤ s.pipe.dbase.at)) ⊎ IsStuck play.app play.dbase

-- without the stop mark, a core of which nothing can go on is settled
abbrev pub LiveLaw : Type 0
LiveLaw =
    (play : Script) (ahead : ℕ) (s : CoreState) → CanRun play ahead → CoreFits play ahead s → s.stopped ≡ false →
    IsIdleOpen play ahead s → IsSettled play s
