-- Why hosts that all sleep are not stuck: laws of the stages' waits and of the bell.
use Rattle.std.specs.Prelude.{◌≡◌, ◌⊎◌, ℕ, false, List, slice_get, Option, Some, Result, Ok}
use Rattle.atomic_table.specs.Seated.{TableId}
use Rattle.play_format.specs.Plays.{Script}
use Rattle.play_check.specs.Stuck.{IsStuck}
use Rattle.stage_parts.specs.declared.answers.Did.{Did}
use Rattle.stage_parts.specs.declared.answers.Did.TheVariants as did
use Rattle.stage_parts.specs.declared.answers.StageError.{StageError}
use Rattle.pipe_plays.specs.Plays.{CanRun, setup_of}
use Rattle.mode_hosts.specs.Gathering.{AreTogether, SeatsKeep}
use Rattle.mode_hosts.specs.Waits.{Stage, System, IsOfPlay, HasEnded, IsOver, IsWaiting, WouldRest}
use Rattle.mode_hosts.specs.Polls.{HasNotBegun, IsPoll, DidSomething}
use Rattle.mode_hosts.specs.Bells.{Sleeps, HasLeft, BellState, OfEach, OfSome, AreSteps, IsOpening, AreAllAsleep, IsKept}

-- a system that has not begun, with its desks and links together and each seat keeping its part, is a system of the play
abbrev pub OpeningLaw : Type 0
OpeningLaw =
    (play : Script) (ahead : ℕ) (bytes : Option (List ℕ)) (lock : TableId) (s : System) → AreTogether lock s.sites →
    SeatsKeep (setup_of play ahead) play.dbase s.sites bytes s.sink.bytes → s.scene.shared.ahead ≡ ahead →
    s.scene.shared.channels ≡ play.channels → HasNotBegun s → IsOfPlay play ahead bytes s

-- a poll of a stage, alone, that did something, keeps what a system of a play keeps
abbrev pub PollLaw : Type 0
PollLaw =
    (play : Script) (ahead : ℕ) (bytes : Option (List ℕ)) (stage : Stage) (s t : System) →
    IsOfPlay play ahead bytes s → DidSomething ahead stage s t → IsOfPlay play ahead bytes t

-- What a poll of a stage, alone, tells by an answer that it did nothing.
pub record TellsWhy (ahead : ℕ) (stage : Stage) (result : Result Did StageError) (s : System) : Type 0 where
  pub waits : result ≡ Ok did.NotYet → IsWaiting ahead stage s
  pub over : result ≡ Ok did.Over → IsOver stage s

abbrev pub AnswerLaw : Type 0
AnswerLaw =
    (ahead : ℕ) (stage : Stage) (result : Result Did StageError) (s t : System) → IsPoll ahead stage result s t →
    TellsWhy ahead stage result s

-- Where the stop mark is not set and a poll of each stage, alone, would do nothing, all stages have ended, or the play is
-- stuck.
abbrev pub ProgressLaw : Type 0
ProgressLaw =
    (play : Script) (ahead : ℕ) (bytes : Option (List ℕ)) (s : System) → CanRun play ahead → IsOfPlay play ahead bytes s →
    s.scene.shared.stopped ≡ false → ((stage : Stage) → WouldRest ahead stage s) →
    ((stage : Stage) → HasEnded stage s) ⊎ IsStuck play.app play.dbase

-- steps of these hosts at the bell, where each has these stages of the system
abbrev pub HostsStep : ℕ → (ℕ → List Stage) → List ℕ → (b c : BellState System) → Type 0
HostsStep ahead crews hosts b c = AreSteps (IsWaiting ahead) IsOver (DidSomething ahead) crews hosts b c

-- What the bell keeps for each host. Where all are asleep or have left, a poll of none of their stages would do anything, and
-- each that sleeps has a stage that waits.
pub record AreKept (ahead : ℕ) (crews : ℕ → List Stage) (b : BellState System) : Type 0 where
  pub kept : (k : ℕ) → IsKept (IsWaiting ahead) IsOver (DidSomething ahead) (crews k) (b.doing k) b
  pub rest : AreAllAsleep b → (k : ℕ) → OfEach (crews k) (λ stage. WouldRest ahead stage b.world)
  pub some : AreAllAsleep b → (k : ℕ) → b.doing k ≡ Sleeps b.rung → OfSome (crews k) (λ stage. IsWaiting ahead stage b.world)

abbrev pub BellLaw : Type 0
BellLaw =
    (ahead : ℕ) (crews : ℕ → List Stage) (hosts : List ℕ) (b c : BellState System) → IsOpening crews b →
    HostsStep ahead crews hosts b c → AreKept ahead crews c

-- some host has the stage
abbrev pub HasHost : (ℕ → List Stage) → Stage → Type 0
HasHost crews stage = (k : ℕ) × (i : ℕ) × (slice_get (crews k) i ≡ Some stage)

-- In a play that is not stuck, hosts that have all its stages and of which each sleeps or has left have all left: whatever the
-- division of the stages, in whatever order the hosts took their steps, and also where the stop mark is set.
abbrev pub HostsLaw : Type 0
HostsLaw =
    (play : Script) (ahead : ℕ) (bytes : Option (List ℕ)) (crews : ℕ → List Stage) (hosts : List ℕ) (b c : BellState System) →
    CanRun play ahead → (IsStuck play.app play.dbase → ⊥) → ((stage : Stage) → HasHost crews stage) →
    IsOfPlay play ahead bytes b.world → IsOpening crews b → HostsStep ahead crews hosts b c →
    AreAllAsleep c → (k : ℕ) → c.doing k ≡ HasLeft
