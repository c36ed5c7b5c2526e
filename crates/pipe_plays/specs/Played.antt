-- What a play leaves: of its frame sink, of its numbers, and how it ended.
use Rattle.std.specs.Prelude.{◌≡◌, ◌≢◌, ⊤, ℕ, ◌+◌, ◌≤◌, List, take, Option, None, Result, Ok, Err}
use Rattle.std.specs.Io.KnownBytes.{append_known}
use Rattle.pf_io.specs.Causes.{Calm, Rose}
use Rattle.draw_list.specs.declared.stats.Stats.{Stats}
use Rattle.play_format.specs.Plays.{Script}
use Rattle.pf_history.specs.Logs.{Log, state_of}
use Rattle.stage_parts.specs.declared.answers.StageError.{StageError}
use Rattle.stage_parts.specs.declared.answers.StageError.TheVariants as error
use Rattle.stage_parts.specs.Parts.{cut_short}
use Rattle.stage_parts.specs.Pictures.{pictures, streamed, frame_numbers}
use Rattle.stage_parts.specs.States.{Seats, PipeState}
use Rattle.pipe_plays.specs.declared.played.PlayEnd.{PlayEnd}
use Rattle.pipe_plays.specs.declared.played.PlayEnd.TheVariants as ends
use Rattle.pipe_plays.specs.Plays.{FitsItsPlay, AreDone}

-- The bytes that a play added to a sink are whole pictures of its history, and a prefix of the next one only where a fault of
-- the sink ended the play. The frames that were retired are among those whose pictures were wholly written.
pub record AddsFront (play : Script) (end : PlayEnd) (log : Log) (old new : Option (List ℕ)) : Type 0 where
  pub written : ℕ
  pub fault : Option ℕ
  pub bytes : new ≡ append_known old (streamed written fault (pictures play.channels play.lens play.back log))
  pub cut : end ≢ ends.FrameFault → fault ≡ None
  pub begun : written ≤ (state_of play.channels log).frames
  pub retired : (state_of play.channels log).retired ≤ written

-- The numbers kept are those of the history's first Frames, in order: of each whose picture was wholly written, and of one
-- more where a fault of the sink cut its picture short.
pub record KeepsNumbers (play : Script) (end : PlayEnd) (log : Log) (stats : List Stats) (old new : Option (List ℕ)) : Type 0 where
  pub front : AddsFront play end log old new
  pub begun : front.written + cut_short front.fault ≤ (state_of play.channels log).frames
  pub numbers : stats ≡ take (front.written + cut_short front.fault) (frame_numbers play.channels play.lens log)

-- What a play leaves is of some pipe that fits it, at seats of these numbers: the pipe's history, the numbers that its
-- application kept, and its stream, which the frame sink was given. A picture was cut short only where a fault of the sink
-- ended the play. Where all was played, APP has sent its End, and DBASE's list is done.
pub record LeavesPipe (play : Script) (ahead : ℕ) (seats : Seats) (end : PlayEnd) (log : Log) (stats : List Stats)
    (old new : Option (List ℕ)) : Type 0 where
  pub pipe : PipeState
  pub fits : FitsItsPlay play ahead seats pipe
  pub history : pipe.log ≡ log
  pub numbers : pipe.app.stats ≡ stats
  pub stream : new ≡ append_known old pipe.stream
  pub cut : end ≢ ends.FrameFault → pipe.app.fault ≡ None
  pub done : end ≡ ends.Done → AreDone play pipe

-- What an error says of the frame sink: where it is the sink's fault, the count of faults rose, and no byte was written
-- after it; else the count stayed.
abbrev pub ErrorBlames : StageError → ℕ → ℕ → (at_fault bytes : Option (List ℕ)) → Type 0
ErrorBlames error.FrameFault before now at_fault bytes = Rose before now × (at_fault ≡ bytes)
ErrorBlames error.NoMemory before now at_fault bytes = Calm before now

-- what an answer says of the frame sink
abbrev pub Blames : {A : Type 0} → Result A StageError → ℕ → ℕ → (at_fault bytes : Option (List ℕ)) → Type 0
Blames (Err error) before now at_fault bytes = ErrorBlames error before now at_fault bytes
Blames (Ok x) before now at_fault bytes = Calm before now

-- what an answer says of the bytes that a fault left of a picture, before and after: only a fault of the sink cuts one short
abbrev pub StaysWhole : {A : Type 0} → Result A StageError → (before now : Option ℕ) → Type 0
StaysWhole (Ok x) before now = now ≡ before
StaysWhole (Err error.NoMemory) before now = now ≡ before
StaysWhole (Err error.FrameFault) before now = ⊤

-- how a play ended that came to this
abbrev pub end_of : {A : Type 0} → Result A StageError → PlayEnd
end_of (Ok x) = ends.Done
end_of (Err error.FrameFault) = ends.FrameFault
end_of (Err error.NoMemory) = ends.NoMemory
