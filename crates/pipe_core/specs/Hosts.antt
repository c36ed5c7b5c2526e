-- What the rounds of a play come to.
use Rattle.std.specs.Prelude.{◌≡◌, ◌⊎◌, ℕ, ◌≤◌, Bool, true, false, List, [], ◌∷◌, Option}
use Rattle.std.specs.List.{AllByRecursion}
use Rattle.play_format.specs.Plays.{Script}
use Rattle.stage_parts.specs.Moves.{moved}
use Rattle.pipe_core.specs.declared.events.Event.{Event}
use Rattle.pipe_core.specs.declared.events.Event.TheVariants as event
use Rattle.pipe_core.specs.Cores.{CoreState, HaveAllEnded}
use Rattle.pipe_core.specs.Waits.{IsOver}
use Rattle.pipe_core.specs.Runs.{Ran}
use Rattle.pipe_core.specs.Pipes.{PipeWork, core_of, PipeKeeps, IsWritten}

-- the four events, in the order of a round
abbrev pub all_events : List Event
all_events = event.App ∷ event.Cull ∷ event.Draw ∷ event.Dbase ∷ []

-- A pipe of a play after polls: it keeps what a pipe of the play keeps, no frame's numbers were told, and the frame sink
-- was given what the stream grew by.
pub record GoesOn (play : Script) (ahead : ℕ) (p q : PipeWork) (bytes bytes' : Option (List ℕ)) : Type 0 where
  pub keeps : PipeKeeps play ahead q
  pub told : q.app.told ≡ p.app.told
  pub wrote : IsWritten bytes bytes' (core_of play p) (core_of play q)

-- The core after polls of which none answered an error, and whether each of them found its stage over.
pub record ArePolled (play : Script) (ahead : ℕ) (events : List Event) (over : Bool) (s t : CoreState) : Type 0 where
  pub ran : Ran play ahead events s t
  pub found : over ≡ true → AllByRecursion (λ e. IsOver play e t) events

-- The core after so many rounds without an error: the stop mark is not set, and all stages have ended, or each round has
-- moved the core.
pub record HasPlayed (play : Script) (rounds : ℕ) (s : CoreState) : Type 0 where
  pub unset : s.stopped ≡ false
  pub gone : HaveAllEnded play s.pipe ⊎ (rounds ≤ moved s.pipe)
