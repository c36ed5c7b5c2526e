-- Settling: turns of a pipe whose play may still grow, taken until none of them can do anything.
use Rattle.std.specs.Prelude.{◌≡◌, ⊤, ℕ, ◌<◌, ◌≤◌, Bool, true, false, List, [], ◌∷◌, ◌++◌, Option, None, Result, Ok, Err, OnOk}
use Rattle.std.specs.List.{AllByRecursion}
use Rattle.pf_history.specs.Logs.{Log}
use Rattle.play_format.specs.Plays.{Script}
use Rattle.stage_parts.specs.Moves.{moved}
use Rattle.stage_parts.specs.declared.answers.Did.{Did}
use Rattle.stage_parts.specs.declared.answers.Did.TheVariants as did
use Rattle.stage_parts.specs.declared.answers.StageError.{StageError}
use Rattle.pipe_core.specs.declared.events.Event.TheVariants as event
use Rattle.pipe_core.specs.declared.live.LiveTurn.{LiveTurn}
use Rattle.pipe_core.specs.declared.live.LiveTurn.TheVariants as turn
use Rattle.pipe_core.specs.Cores.{CoreState}
use Rattle.pipe_core.specs.Waits.{IsLineDry, IsIdleEvent}
use Rattle.pipe_core.specs.Lives.{AppMustWait, IsSettled}
use Rattle.pipe_core.specs.Pipes.{PipeWork, core_of, PipeKeeps, IsWritten}

-- A log that another one goes on from: it has entries behind those of that one, or none.
pub record GoesOnFrom (before after : Log) : Type 0 where
  pub more : Log
  pub is : after ≡ before ++ more

-- whether a poll did something
abbrev pub done_of : Result Did StageError → Result Bool StageError
done_of (Ok did.Did) = Ok true
done_of (Ok did.NotYet) = Ok false
done_of (Ok did.Over) = Ok false
done_of (Err error) = Err error

-- No picture can be taken back: the application holds a packet, or has ended, or a fault of the sink cut a picture short;
-- or none came back of those that are due.
abbrev pub NoneIsBack : CoreState → Type 0
NoneIsBack s =
    s.pipe.app.held ≡ None → s.pipe.app.ended ≡ false → s.pipe.app.fault ≡ None →
    s.pipe.app.written < s.pipe.app.frames → IsLineDry s.pipe.c

-- a turn can do nothing before more lines are read
abbrev pub IsIdleTurn : Script → ℕ → LiveTurn → CoreState → Type 0
IsIdleTurn play ahead turn.App s = s.pipe.app.closed ≡ false → s.stopped ≡ false → AppMustWait play ahead s
IsIdleTurn play ahead turn.Back s = NoneIsBack s
IsIdleTurn play ahead turn.Cull s = IsIdleEvent play ahead event.Cull s
IsIdleTurn play ahead turn.Draw s = IsIdleEvent play ahead event.Draw s
IsIdleTurn play ahead turn.Dbase s = IsIdleEvent play ahead event.Dbase s

-- none of these turns can do anything
abbrev pub AreIdle : Script → ℕ → List LiveTurn → CoreState → Type 0
AreIdle play ahead turns s = AllByRecursion (λ t. IsIdleTurn play ahead t s) turns

-- the turns of a round
abbrev pub round_turns : List LiveTurn
round_turns = turn.App ∷ turn.Back ∷ turn.Cull ∷ turn.Draw ∷ turn.Dbase ∷ []

-- What turns answer. True: the core moved, and the stop mark is as before. False: nothing changed, for this cause. An error:
-- the stop mark is set.
abbrev pub TurnSays : (CoreState → Type 0) → Result Bool StageError → CoreState → CoreState → Type 0
TurnSays idle (Ok true) s t = (moved s.pipe < moved t.pipe) × (t.stopped ≡ s.stopped)
TurnSays idle (Ok false) s t = (t ≡ s) × idle s
TurnSays idle (Err error) s t = t.stopped ≡ true

-- A pipe after turns, of which none makes the application close: it keeps what a pipe of the play keeps, its history goes
-- on, the frame sink was given what the stream grew by, and this is what they answer.
pub record TurnsGo (play : Script) (ahead : ℕ) (idle : CoreState → Type 0) (result : Result Bool StageError) (p q : PipeWork)
    (bytes bytes' : Option (List ℕ)) : Type 0 where
  pub keeps : PipeKeeps play ahead q
  pub grows : GoesOnFrom p.scene.shared.log q.scene.shared.log
  pub wrote : IsWritten bytes bytes' (core_of play p) (core_of play q)
  pub going : p.app.state.closed ≡ false → q.app.state.closed ≡ false
  pub says : TurnSays idle result (core_of play p) (core_of play q)

-- After so many rounds in each of which the core moved, it moved at least as often.
pub record HaveGone (play : Script) (ahead rounds : ℕ) (p q : PipeWork) (bytes bytes' : Option (List ℕ)) : Type 0 where
  pub keeps : PipeKeeps play ahead q
  pub grows : GoesOnFrom p.scene.shared.log q.scene.shared.log
  pub wrote : IsWritten bytes bytes' (core_of play p) (core_of play q)
  pub going : p.app.state.closed ≡ false → q.app.state.closed ≡ false
  pub mark : (core_of play q).stopped ≡ (core_of play p).stopped
  pub moves : rounds ≤ moved (core_of play q).pipe

-- A pipe that is settled, and whose play may still grow.
pub record IsSettledOpen (play : Script) (p : PipeWork) : Type 0 where
  pub going : p.app.state.closed ≡ false
  pub unset : p.scene.shared.stopped ≡ false
  pub settled : IsSettled play (core_of play p)

-- an error has set the stop mark
abbrev pub StopsAtError : {A : Type 0} → Result A StageError → PipeWork → Type 0
StopsAtError (Ok x) p = ⊤
StopsAtError (Err error) p = p.scene.shared.stopped ≡ true

-- What settling does to a pipe: it keeps what a pipe of the play keeps, its history goes on, and the frame sink was given
-- what the stream grew by. Without an error a pipe that had not closed and had no stop mark is settled; after an error the
-- stop mark is set.
pub record Settles {A : Type 0} (play : Script) (ahead : ℕ) (result : Result A StageError) (p q : PipeWork)
    (bytes bytes' : Option (List ℕ)) : Type 0 where
  pub keeps : PipeKeeps play ahead q
  pub grows : GoesOnFrom p.scene.shared.log q.scene.shared.log
  pub wrote : IsWritten bytes bytes' (core_of play p) (core_of play q)
  pub settled : p.app.state.closed ≡ false → p.scene.shared.stopped ≡ false → OnOk result (IsSettledOpen play q)
  pub stops : StopsAtError result q
