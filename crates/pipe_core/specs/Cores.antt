-- The core: a pipe on one thread.
use Rattle.std.specs.Prelude.{◌≡◌, ℕ, ◌≤◌, Bool, true, length, Some}
use Rattle.play_format.specs.Plays.{Script}
use Rattle.stage_parts.specs.States.{Seats, PipeState}
use Rattle.pipe_plays.specs.Plays.{FitsItsPlay}
use Rattle.pipe_core.specs.declared.events.Event.{Event}
use Rattle.pipe_core.specs.declared.events.Event.TheVariants as event

-- The core: its pipe, and whether the stop mark is set.
pub record CoreState : Type 0 where
  pub pipe : PipeState
  pub stopped : Bool

-- on one thread all stages have the only seat
abbrev pub one_seat : Seats
one_seat = record { app = 0; dbase = 0 }

-- A core fits its play: its pipe does, the lines passed are among those of their sections, and a fault of the frame sink
-- has set the stop mark.
pub record CoreFits (play : Script) (ahead : ℕ) (s : CoreState) : Type 0 where
  pub pipe : FitsItsPlay play ahead one_seat s.pipe
  pub app_lines : s.pipe.app.at ≤ length play.app
  pub dbase_lines : s.pipe.dbase.at ≤ length play.dbase
  pub marked : (n : ℕ) → s.pipe.app.fault ≡ Some n → s.stopped ≡ true

-- The stage that an event polls has ended: APP's End is sent, CULL's is passed on, DRAW's is taken, DBASE's list is done.
abbrev pub HasEnded : Script → Event → PipeState → Type 0
HasEnded play event.App s = s.app.ended ≡ true
HasEnded play event.Cull s = s.cull.ended ≡ true
HasEnded play event.Draw s = s.draw.ended ≡ true
HasEnded play event.Dbase s = length play.dbase ≤ s.dbase.at

-- all stages have ended
abbrev pub HaveAllEnded : Script → PipeState → Type 0
HaveAllEnded play s = (e : Event) → HasEnded play e s
