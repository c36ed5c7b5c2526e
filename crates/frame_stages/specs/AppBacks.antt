-- What taking a packet back says, wherever in its section the application stands.
use Rattle.std.specs.Prelude.{◌≡◌, ℕ, ◌+◌, ◌<◌, List, length, IsSome, Result, Ok, Err}
use Rattle.seat_lock.specs.Log.{of}
use Rattle.pf_io.specs.Causes.{Rose}
use Rattle.stage_parts.specs.declared.answers.Did.{Did}
use Rattle.stage_parts.specs.declared.answers.Did.TheVariants as did
use Rattle.stage_parts.specs.declared.answers.StageError.{StageError}
use Rattle.stage_parts.specs.declared.answers.StageError.TheVariants as error
use Rattle.stage_parts.specs.Answers.{IsDry}
use Rattle.frame_stages.specs.AppTurns.{Tells, IsMarked}
use Rattle.frame_stages.specs.AppWorks.{AppWork}
use Rattle.frame_stages.specs.AppAnswers.{Around, IsIdle, IsKeptBy}

-- The picture was wholly written.
pub record WritesWhole (old new : AppWork) (before after : Around) : Type 0 where
  pub told : after.told ≡ before.told
  pub ends : after.ends
      ≡ record before.ends { taken = after.ends.taken; sink = record before.ends.sink { bytes = after.ends.sink.bytes } }
  pub written : new.state.written ≡ old.state.written + 1
  pub fault : new.state.fault ≡ old.state.fault

-- A fault of the sink cut the picture short, and the stop mark is set.
pub record WritesShort (old new : AppWork) (before after : Around) : Type 0 where
  pub told : Tells IsMarked before.told after.told
  pub ends : after.ends ≡ record before.ends { taken = after.ends.taken; sink = after.ends.sink }
  pub rose : Rose before.ends.sink.faults after.ends.sink.faults
  pub last : after.ends.sink.at_fault ≡ after.ends.sink.bytes
  pub written : new.state.written ≡ old.state.written
  pub fault : IsSome new.state.fault

abbrev pub SaysBack : Result Did StageError → AppWork → AppWork → Around → Around → Type 0
SaysBack (Ok did.Did) old new before after = WritesWhole old new before after
SaysBack (Err error.FrameFault) old new before after = WritesShort old new before after
SaysBack _ old new before after = ⊥

-- A packet was taken back, no turn of its own was made, and all else that the stage has is as it was.
pub record BringsBack (k : ℕ) (result : Result Did StageError) (old new : AppWork) (before after : Around) : Type 0 where
  pub kept : IsKeptBy k old new before after
  pub work : new ≡ record old {
    state = record old.state {
      written = new.state.written;
      fault = new.state.fault;
      spare = new.state.spare;
      stats = new.state.stats;
    };
    home = new.home;
  }
  pub away : old.state.written < old.state.frames
  pub own : of k after.seen ≡ of k before.seen
  pub many : length after.ends.taken ≡ length before.ends.taken + 1
  pub says : SaysBack result old new before after

-- Nothing was taken back: nothing changed, the log seen is as before, and no frame is away or no packet came.
pub record FindsNone (k : ℕ) (old new : AppWork) (before after : Around) : Type 0 where
  pub idle : IsIdle k old new before after
  pub seen : after.seen ≡ before.seen
  pub dry : old.state.written < old.state.frames → IsDry before.ends.told_sent before.ends.taken

-- what taking a packet back answers
abbrev pub TakesOnly : ℕ → Result Did StageError → AppWork → AppWork → Around → Around → Type 0
TakesOnly k (Ok did.NotYet) old new before after = FindsNone k old new before after
TakesOnly k result old new before after = BringsBack k result old new before after
