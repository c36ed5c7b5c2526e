-- What a live run leaves that was closed.
use Rattle.std.specs.Prelude.{◌≡◌, ◌⊎◌, ℕ, ◌≤◌, Bool, true, false, List, [], drop, Option, None, Some, IfSome, Result, Ok, Err}
use Rattle.std.specs.Io.KnownBytes.{append_known}
use Rattle.pf_io.specs.Causes.{Calm, Rose}
use Rattle.draw_list.specs.declared.stats.Stats.{Stats}
use Rattle.play_format.specs.declared.refusal.Refusal.{Refusal}
use Rattle.pf_history.specs.Logs.{Log}
use Rattle.pipe_plays.specs.declared.played.PlayEnd.{PlayEnd}
use Rattle.pipe_plays.specs.declared.played.PlayEnd.TheVariants as end
use Rattle.program_ends.specs.declared.stop.Stop.{Stop}
use Rattle.program_ends.specs.declared.stop.Stop.TheVariants as stop
use Rattle.program_ends.specs.Statuses.{status_of, refusal_of}
use Rattle.program_ends.specs.Messages.{message_of}
use Rattle.program_ends.specs.Told.{Bytes, IsTold}
use Rattle.live_run.specs.declared.halt.Halt.{Halt}
use Rattle.live_run.specs.declared.halt.Halt.TheVariants as halt
use Rattle.live_run.specs.Telling.{Lists}
use Rattle.live_run.specs.LiveRuns.{IsReportOf, IsLiveDone, IsLiveRefused, IsLiveUnread, IsLiveBegun, IsLiveStopped}
use Rattle.live_run.specs.Runs.{Start, ReportsFront, ReportsCut}

-- the status of a run and what it says last that reads no further, whose pipe came to its end, and which told all
abbrev pub end_of_halt : Halt → ℕ × Option Stop
end_of_halt (halt.Refused r) = (2, Some (stop.Refused r))
end_of_halt halt.ReadFault = (4, Some stop.ReadFault)
end_of_halt halt.ReportFault = (6, None)
end_of_halt halt.Untold = (7, Some stop.NoMemory)
end_of_halt halt.Broken = (7, Some stop.NoMemory)

-- the same of a run that came to this
abbrev pub end_of_told : Result Unit Halt → ℕ × Option Stop
end_of_told (Ok u) = (0, None)
end_of_told (Err h) = end_of_halt h

-- the same, by the end of its pipe
abbrev pub end_of_pipe : PlayEnd → Result Unit Halt → ℕ × Option Stop
end_of_pipe end.Done came = end_of_told came
end_of_pipe end.FrameFault came = (5, Some stop.FrameFault)
end_of_pipe end.NoMemory came = (7, Some stop.NoMemory)

-- the same, where it did not tell all
abbrev pub end_untold : PlayEnd → Halt → ℕ × Option Stop
end_untold end.FrameFault halt.ReportFault = (5, None)
end_untold end.FrameFault h = (5, Some stop.FrameFault)
end_untold e halt.ReportFault = (6, None)
end_untold e h = (7, Some stop.NoMemory)

-- the same, by the end of its pipe, what it came to before, and what telling the rest came to
abbrev pub end_at : PlayEnd → (came told : Result Unit Halt) → ℕ × Option Stop
end_at e came (Ok u) = end_of_pipe e came
end_at e came (Err h) = end_untold e h

-- the report sink is to get nothing more, or lines are lost
abbrev pub is_quiet : Result Unit Halt → Bool
is_quiet (Err halt.ReportFault) = true
is_quiet (Err halt.Untold) = true
is_quiet came = false

-- the live report of a history stands on the report sink
abbrev pub TellsAll : Log → (report report' : Bytes) → (before now : ℕ) → Type 0
TellsAll log report report' before now =
    (text : List ℕ) × IsReportOf log text × (report' ≡ append_known report text) × Calm before now

-- what stands there when telling the rest came to this
abbrev pub ToldOut : Result Unit Halt → Log → (report report' : Bytes) → (before now : ℕ) → Type 0
ToldOut (Ok u) log report report' before now = TellsAll log report report' before now
ToldOut (Err halt.ReportFault) log report report' before now = ReportsCut log report report' before now
ToldOut (Err h) log report report' before now = ReportsFront log report report' before now

-- What telling the rest of a history and of numbers leaves of the report sink, where so many of each were told before.
abbrev pub TellsRest : (frames entries : ℕ) → Log → List Stats → (report report' : Bytes) → (before now : ℕ) → Result Unit Halt → Type 0
TellsRest frames entries log stats report report' before now (Ok u) =
    (text : List ℕ) × Lists frames (drop entries log) stats [] text × (report' ≡ append_known report text) × Calm before now
TellsRest frames entries log stats report report' before now (Err halt.ReportFault) =
    (text : List ℕ) × Lists frames (drop entries log) stats [] text × IsTold report report' before now text × Rose before now
TellsRest frames entries log stats report report' before now (Err halt.Broken) = (report' ≡ report) × Calm before now
TellsRest frames entries log stats report report' before now (Err h) = ⊥

-- how a run ends that says this last, or nothing more, which is its status then
abbrev pub Says : ℕ → Option Stop → (status : ℕ) → Option Refusal → (report report' : Bytes) → (before now : ℕ) → Type 0
Says n (Some why) status refusal report report' before now =
    (status ≡ status_of why) × (refusal ≡ refusal_of why) × IsTold report report' before now (message_of why)
Says n None status refusal report report' before now = (status ≡ n) × (refusal ≡ None) × (report' ≡ report) × Calm before now

-- What a status says of the frame sink: it is that of a fault only where the count of faults rose, and then nothing was written
-- after it; at every other status the count is as before.
pub record StatusBlames (status before now : ℕ) (at_fault bytes : Bytes) : Type 0 where
  pub fault : status ≡ 5 → Rose before now
  pub last : status ≡ 5 → at_fault ≡ bytes
  pub calm : (status ≡ 5 → ⊥) → Calm before now

-- What a status says of the source: it is that of a fault only where the count of faults rose, and a lesser one where the count
-- is as before.
pub record StatusReads (status before now : ℕ) : Type 0 where
  pub fault : status ≡ 4 → Rose before now
  pub calm : status ≤ 2 → Calm before now
  pub counts : Calm before now ⊎ Rose before now

-- How a run ended whose words are right.
pub record EndsLive (s : Start) (left' : Bytes) (status : ℕ) (refusal : Option Refusal) (log : Log) (frames' report' : Bytes) (faults' : ℕ) :
    Type 0 where
  pub done : status ≡ 0 → IsLiveDone (Some s.setup) s.left left' log s.frames frames' s.report report'
  pub refused : status ≡ 2 →
      IfSome refusal (λ r. IsLiveRefused (Some s.setup) s.left left' r log s.frames frames' s.report report' s.faults faults')
  pub unread : status ≡ 4 → IsLiveUnread (Some s.setup) s.left left' log s.frames frames' s.report report' s.faults faults'
  pub begun : status ≡ 5 → IsLiveBegun (Some s.setup) s.left left' end.FrameFault log s.frames frames'
  pub untold : status ≡ 6 → IsLiveBegun (Some s.setup) s.left left' end.Done log s.frames frames'
  pub part : status ≡ 7 → IsLiveBegun (Some s.setup) s.left left' end.NoMemory log s.frames frames'
  pub calm : status ≡ 0 → Calm s.faults faults'
  pub fault : status ≡ 6 → Rose s.faults faults'
  pub stopped : (status ≡ 5) ⊎ (status ≡ 7) → IsLiveStopped status refusal log s.report report' s.faults faults'
