-- Runs of events, and the parts of a run that hold all four.
use Rattle.std.specs.Prelude.{◌≡◌, ◌⊎◌, ℕ, ◌+◌, ◌<◌, Bool, true, false, ◌&&◌, if◌then◌else◌, List, [], ◌∷◌}
use Rattle.std.specs.List.{list_any}
use Rattle.play_format.specs.Plays.{Script}
use Rattle.stage_parts.specs.Moves.{moved}
use Rattle.pipe_core.specs.declared.events.Event.{Event}
use Rattle.pipe_core.specs.declared.events.Event.TheVariants as event
use Rattle.pipe_core.specs.Cores.{CoreState, CoreFits}
use Rattle.pipe_core.specs.Waits.{IsOver, IsIdleEvent}

-- An event that did something: its stage is not over, the core moves, and the stop mark is as before.
pub record HasMoved (play : Script) (e : Event) (s t : CoreState) : Type 0 where
  pub alive : IsOver play e s → ⊥
  pub moves : moved s.pipe < moved t.pipe
  pub mark : t.stopped ≡ s.stopped

-- An event that changes nothing.
pub record Rests (play : Script) (ahead : ℕ) (e : Event) (s t : CoreState) : Type 0 where
  pub same : t ≡ s
  pub idle : IsIdleEvent play ahead e s

-- The core after an event that answered no error: it fits, and the event did something, or changed nothing.
pub record Steps (play : Script) (ahead : ℕ) (e : Event) (s t : CoreState) : Type 0 where
  pub fits : CoreFits play ahead t
  pub step : HasMoved play e s t ⊎ Rests play ahead e s t

-- The core after events of which none answered an error.
abbrev pub Ran : Script → ℕ → List Event → CoreState → CoreState → Type 0
Ran play ahead [] s t = t ≡ s
Ran play ahead (e ∷ es) s t = (u : CoreState) × Steps play ahead e s u × Ran play ahead es u t

-- Parts that hold all four events

abbrev pub is_event : Event → Event → Bool
is_event event.App event.App = true
is_event event.Cull event.Cull = true
is_event event.Draw event.Draw = true
is_event event.Dbase event.Dbase = true
is_event _ _ = false

-- whether an event is among others
abbrev pub holds : List Event → Event → Bool
holds es e = list_any (is_event e) es

-- whether all four events are among these
abbrev pub holds_all : List Event → Bool
holds_all es = holds es event.App && (holds es event.Cull && (holds es event.Draw && holds es event.Dbase))

-- into how many parts that hold all four events these can be cut behind those of a part that is open: each part ends as
-- soon as it holds all
abbrev pub rounds_from : List Event → List Event → ℕ
rounds_from part [] = 0
rounds_from part (e ∷ es) = if holds_all (e ∷ part) then 1 + rounds_from [] es else rounds_from (e ∷ part) es

abbrev pub rounds : List Event → ℕ
rounds es = rounds_from [] es
