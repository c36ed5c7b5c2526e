-- What was made and shown once a pipe has caught up with the lines that were read of its play so far.
use Rattle.std.specs.Prelude.{◌≡◌, ℕ, ◌≤◌, false, length, None}
use Rattle.std.specs.List.{concat}
use Rattle.play_format.specs.Plays.{Script}
use Rattle.stage_parts.specs.Gathering.{IsDrained}
use Rattle.stage_parts.specs.Pictures.{pictures, frame_numbers}
use Rattle.stage_parts.specs.States.{Seats, PipeState}
use Rattle.pipe_plays.specs.Orders.{IsMade}
use Rattle.pipe_plays.specs.Plays.{CanRun, FitsItsPlay}

-- All lines were passed and no packet is under way; the application has not closed, and no picture was cut short.
pub record HasPassedAll (play : Script) (s : PipeState) : Type 0 where
  pub going : s.app.closed ≡ false
  pub whole : s.app.fault ≡ None
  pub app : length play.app ≤ s.app.at
  pub dbase : length play.dbase ≤ s.dbase.at
  pub drained : IsDrained s

-- All that the play asks for was made but the closing Sync, the stream is all pictures of the history, wholly written, and
-- the numbers kept are those of all its Frames.
pub record IsCaughtUp (play : Script) (ahead : ℕ) (s : PipeState) : Type 0 where
  pub made : IsMade play.channels ahead play.app play.dbase s.log
  pub written : s.app.written ≡ s.app.frames
  pub stream : s.stream ≡ concat (pictures play.channels play.lens play.back s.log)
  pub numbers : s.app.stats ≡ frame_numbers play.channels play.lens s.log

abbrev pub CaughtUpLaw : Type 0
CaughtUpLaw =
    (play : Script) (ahead : ℕ) (seats : Seats) (s : PipeState) → CanRun play ahead → FitsItsPlay play ahead seats s →
    HasPassedAll play s → IsCaughtUp play ahead s
