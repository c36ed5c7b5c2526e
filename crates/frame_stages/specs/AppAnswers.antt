-- What a poll of the application's stage says.
use Rattle.std.specs.Prelude.{◌≡◌, ⊤, ◌⊎◌, ℕ, ◌+◌, ◌<◌, ◌≤◌, Bool, true, false, List, [], ◌∷◌, ◌++◌, length, Option, None, Some, IsSome, MatchOption, Result, Ok, Err}
use Rattle.std.specs.Io.KnownBytes.{append_known}
use Rattle.seat_lock.specs.Log.{of, Found}
use Rattle.pf_io.specs.Causes.{Rose}
use Rattle.pf_model.specs.declared.lines.AppStep.{AppStep}
use Rattle.pf_model.specs.declared.lines.AppStep.TheVariants as app
use Rattle.pf_history.specs.declared.commands.Caller.TheVariants.{App}
use Rattle.pf_history.specs.declared.commands.Entry.{Entry}
use Rattle.pf_history.specs.Logs.{Log}
use Rattle.pf_scene.specs.Scenes.{Shared, SceneState}
use Rattle.pf_scene.specs.Acts.{MayEdit, MayView, MaySync, MayFrame}
use Rattle.stage_parts.specs.declared.packets.Packet.{Packet}
use Rattle.stage_parts.specs.States.{Setup, AppState}
use Rattle.stage_parts.specs.Frames.{AreOwnFrames, RetiresJust}
use Rattle.stage_parts.specs.Parts.{sent_and_held, AppKeeps}
use Rattle.stage_parts.specs.declared.answers.Did.{Did}
use Rattle.stage_parts.specs.declared.answers.Did.TheVariants as did
use Rattle.stage_parts.specs.declared.answers.StageError.{StageError}
use Rattle.stage_parts.specs.declared.answers.StageError.TheVariants as error
use Rattle.stage_parts.specs.Answers.{IsFull, IsDry}
use Rattle.frame_stages.specs.Flights.{FlightState, SinkSide}
use Rattle.frame_stages.specs.Scripts.{next_step, is_sync_due, own_lines}
use Rattle.frame_stages.specs.AppTurns.{Tells, Bars, IsMarked}
use Rattle.frame_stages.specs.AppWorks.{AppWork, IsGiven, PassesEnough, merges_in}
use Rattle.frame_stages.specs.Copies.{HoldsCopies, IsHomeRight, HasHome}

-- What is known of the links and of the sink: what was received and sent, what the other ends sent and received, and the
-- room of the link.
pub record Ends : Type 0 where
  pub taken : List Packet
  pub sent : List Packet
  pub told_sent : Option (List Packet)
  pub told_taken : Option (List Packet)
  pub room : ℕ
  pub sink : SinkSide

-- What stands around the stage: the log that it has seen, the scene where its desk tells it, and the ends.
pub record Around : Type 0 where
  pub seen : Log
  pub told : Option SceneState
  pub ends : Ends

abbrev pub around : Log → Option SceneState → Ends → Around
around seen told ends = record { seen = seen; told = told; ends = ends }

-- the ends, of which the one to send has sent this, with so much room
abbrev pub with_sent : List Packet → ℕ → Option (List Packet) → Ends → Ends
with_sent sent room told ends = record ends { sent = sent; room = room; told_taken = told }

-- the ends, of which the one to take has received this, and this of the sink
abbrev pub with_back : List Packet → Option (List Packet) → SinkSide → Ends → Ends
with_back taken told sink ends = record ends { taken = taken; told_sent = told; sink = sink }

-- no frame is away, or no packet came
abbrev pub IsBackFrom : FlightState → Ends → Type 0
IsBackFrom f ends = f.written < f.frames → IsDry ends.told_sent ends.taken

-- What an answer says. What is held goes first: all but sending it is done only where none is held.

-- Nothing changed.
pub record IsIdle (k : ℕ) (old new : AppWork) (before after : Around) : Type 0 where
  pub work : new ≡ old
  pub own : of k after.seen ≡ of k before.seen
  pub told : after.told ≡ before.told
  pub ends : after.ends ≡ before.ends

-- The packet that was held was sent.
pub record Sends (k : ℕ) (old new : AppWork) (before after : Around) : Type 0 where
  pub at : new.state.at ≡ old.state.at
  pub own : of k after.seen ≡ of k before.seen
  pub told : after.told ≡ before.told
  pub ends : after.ends ≡ record before.ends { sent = after.ends.sent }
  pub many : length after.ends.sent ≡ length before.ends.sent + 1
  pub all : sent_and_held after.ends.sent new.state.held ≡ sent_and_held before.ends.sent old.state.held

-- Before a Sync a packet was taken back, and its picture was wholly written.
pub record TakesBack (k : ℕ) (old new : AppWork) (before after : Around) : Type 0 where
  pub at : new.state.at ≡ old.state.at
  pub own : of k after.seen ≡ of k before.seen
  pub told : after.told ≡ before.told
  pub ends : after.ends
      ≡ record before.ends { taken = after.ends.taken; sink = record before.ends.sink { bytes = after.ends.sink.bytes } }
  pub many : length after.ends.taken ≡ length before.ends.taken + 1
  pub written : new.state.written ≡ old.state.written + 1
  pub bare : old.state.held ≡ None
  pub due : is_sync_due (next_step old.rest) old.state.synced ≡ true

-- A wait was passed, for so many merges as stand in the log.
pub record PassesWait (k : ℕ) (old new : AppWork) (before after : Around) : Type 0 where
  pub at : new.state.at ≡ old.state.at + 1
  pub need : new.state.need ≤ merges_in after.seen
  pub own : of k after.seen ≡ of k before.seen
  pub told : after.told ≡ before.told
  pub ends : after.ends ≡ before.ends
  pub bare : old.state.held ≡ None

-- The log of the scene has one entry more, the application's under the number k, and else what is shared is as before,
-- the seat aside.
pub record IsLonger (k : ℕ) (old new : Shared) : Type 0 where
  pub entry : Entry
  pub app : entry.caller ≡ App
  pub log : new.log ≡ old.log ++ (k, entry) ∷ []
  pub stopped : new.stopped ≡ old.stopped
  pub ahead : new.ahead ≡ old.ahead
  pub channels : new.channels ≡ old.channels

-- An entry was made, and its line was passed, where it has one. Before a Sync nothing was left to take back.
pub record MakesEntry (k : ℕ) (old new : AppWork) (before after : Around) : Type 0 where
  pub at : old.state.at ≤ new.state.at
  pub own : length (of k after.seen) ≡ length (of k before.seen) + 1
  pub told : Tells (IsLonger k) before.told after.told
  pub ends : after.ends ≡ before.ends
  pub bare : old.state.held ≡ None
  pub line : new.state.at ≡ old.state.at + own_lines (next_step old.rest) old.state.synced
  -- where a line is left, it does not close
  pub stays_open : (next_step old.rest ≡ None → ⊥) → new.state.closed ≡ old.state.closed
  pub back : is_sync_due (next_step old.rest) old.state.synced ≡ true → old.state.written < old.state.frames →
      IsDry before.ends.told_sent before.ends.taken

-- A fault of the sink cut the picture short of a packet that was taken back before a Sync.
pub record CutsShort (k : ℕ) (old new : AppWork) (before after : Around) : Type 0 where
  pub at : new.state.at ≡ old.state.at
  pub own : of k after.seen ≡ of k before.seen
  pub told : Tells IsMarked before.told after.told
  pub many : length after.ends.taken ≡ length before.ends.taken + 1
  pub ends : after.ends ≡ record before.ends { taken = after.ends.taken; sink = after.ends.sink }
  pub rose : Rose before.ends.sink.faults after.ends.sink.faults
  pub last : after.ends.sink.at_fault ≡ after.ends.sink.bytes
  pub fault : IsSome new.state.fault
  pub bare : old.state.held ≡ None
  pub due : is_sync_due (next_step old.rest) old.state.synced ≡ true

-- a step that may want memory: each but a wait, and the end of the section
abbrev pub MayWant : Option AppStep → Type 0
MayWant (Some (app.Wait n)) = ⊥
MayWant _ = ⊤

-- There was no memory for the next step.
pub record RunsOut (k : ℕ) (old new : AppWork) (before after : Around) : Type 0 where
  pub wanted : MayWant (next_step old.rest)
  pub at : new.state.at ≡ old.state.at
  pub own : of k after.seen ≡ of k before.seen
  pub told : Tells IsMarked before.told after.told
  pub ends : after.ends ≡ before.ends
  pub bare : old.state.held ≡ None

-- A Sync has to wait: more frames are away than may be, and no packet came back.
abbrev pub SyncWaits : AppWork → Option SceneState → Ends → Log → Type 0
SyncWaits w told ends seen' =
    ((w.state.written < w.state.frames → IsDry ends.told_sent ends.taken) × (w.state.written + w.ahead ≤ w.state.frames))
    ⊎ Bars (λ s. MaySync s w.state.written) told seen'

-- the close has to wait: frames are away, and no packet came back; or merges of the play are not made
abbrev pub CloseWaits : AppWork → Option SceneState → Ends → Log → Type 0
CloseWaits w told ends seen' =
    (IsDry ends.told_sent ends.taken × (w.state.written < w.state.frames))
    ⊎ ((merges_in seen' < w.merges) ⊎ SyncWaits w told ends seen')

-- A Frame has to wait: behind a Sync it might not be made in the scene found, or no load is in hand; before one, the Sync has to.
abbrev pub FrameWaits : Bool → AppWork → Option SceneState → Ends → Log → Type 0
FrameWaits true w told ends seen' = Bars (λ s. MayFrame s w.ahead w.channels) told seen' ⊎ (w.state.spare ≡ [])
FrameWaits false w told ends seen' = SyncWaits w told ends seen'

-- the next step has to wait
abbrev pub StepWaits : Option AppStep → AppWork → Option SceneState → Ends → Log → Type 0
StepWaits None w told ends seen' = CloseWaits w told ends seen'
StepWaits (Some (app.Edit e)) w told ends seen' = Bars (λ s. MayEdit s e) told seen'
StepWaits (Some (app.View channel v)) w told ends seen' = Bars (λ s. MayView s channel v) told seen'
StepWaits (Some app.Sync) w told ends seen' = SyncWaits w told ends seen'
StepWaits (Some app.Frame) w told ends seen' = FrameWaits w.state.synced w told ends seen'
StepWaits (Some (app.Wait n)) w told ends seen' = merges_in seen' < n

-- Why the stage has to wait, where the log seen is then this: the link has no room for the packet that it holds; fewer
-- merges stand in the log than a wait asked for that was passed; or its next step has to.
abbrev pub AppWaits : AppWork → Option SceneState → Ends → Log → Type 0
AppWaits w told ends seen' =
    MatchOption w.state.held
    ((merges_in seen' < w.state.need) ⊎ StepWaits (next_step w.rest) w told ends seen')
    (λ _. IsFull ends.room ends.told_taken ends.sent)

-- what the stage did
abbrev pub AppDid : ℕ → AppWork → AppWork → Around → Around → Type 0
AppDid k old new before after =
    Sends k old new before after
    ⊎ (TakesBack k old new before after ⊎ (PassesWait k old new before after ⊎ MakesEntry k old new before after))

-- what an answer says
abbrev pub AppAnswers : Result Did StageError → ℕ → AppWork → AppWork → Around → Around → Type 0
AppAnswers (Ok did.Did) k old new before after = AppDid k old new before after
AppAnswers (Ok did.NotYet) k old new before after = IsIdle k old new before after × AppWaits old before.told before.ends after.seen
AppAnswers (Ok did.Over) k old new before after = IsIdle k old new before after
AppAnswers (Err error.FrameFault) k old new before after = CutsShort k old new before after
AppAnswers (Err error.NoMemory) k old new before after = RunsOut k old new before after

-- What is kept

-- The log found goes on from the log seen with no further entry of the number k, and behind it stands one entry of the
-- application under that number, or none. Where it is a Sync, it retires just the frames whose pictures are wholly
-- written, as many as these.
pub record AppAdds (k written : ℕ) (seen seen' : Log) : Type 0 where
  pub found : Log
  pub goes_on : Found k seen found
  pub adds : (seen' ≡ found) ⊎ ((e : Entry) × (e.caller ≡ App) × RetiresJust written e.command × (seen' ≡ found ++ (k, e) ∷ []))

-- All that APP keeps is kept, with what was written at the end of the stream.
pub record KeepsOn (g : Setup) (k : ℕ) (a : AppState) (written : Option (List ℕ)) (after : Around) (stream : List ℕ) : Type 0 where
  pub more : List ℕ
  pub wrote : after.ends.sink.bytes ≡ append_known written more
  pub keeps : AppKeeps g k a after.seen after.ends.taken after.ends.sent (stream ++ more)

-- What each step of APP keeps, whatever it is, for a desk of number k.
pub record IsKeptBy (k : ℕ) (old new : AppWork) (before after : Around) : Type 0 where
  -- what was given stays
  pub given : (g : Setup) → IsGiven g old → IsGiven g new
  -- it keeps its part, where all Frames are its own
  pub part : (g : Setup) (stream : List ℕ) → IsGiven g old → AreOwnFrames k after.seen →
      AppKeeps g k old.state before.seen before.ends.taken before.ends.sent stream →
      KeepsOn g k new.state before.ends.sink.bytes after stream
  -- the lists that go home are those of the packets that came back since its last Sync
  pub home : (g : Setup) (stream : List ℕ) → IsGiven g old → AreOwnFrames k after.seen →
      AppKeeps g k old.state before.seen before.ends.taken before.ends.sent stream →
      HasHome g k old before.seen before.ends.taken → HasHome g k new after.seen after.ends.taken
  -- the scene's copies stay accounted for, where the lists that go home are right
  pub counted : HoldsCopies before.told → IsHomeRight old before.told → HoldsCopies after.told
  -- it passed a line for each frame
  pub passes : PassesEnough old.state → PassesEnough new.state
  -- it tells no numbers
  pub told : new.told ≡ old.told
  -- the merges that it waited for stand in the log
  pub waited : old.state.need ≤ merges_in before.seen → new.state.need ≤ merges_in after.seen
  -- it adds at most one entry, and that is its own; each Sync retires just the frames whose pictures are wholly written
  pub adds : AppAdds k new.state.written before.seen after.seen

-- the answer is a fault of the frame sink
abbrev pub is_fault : Result Did StageError → Bool
is_fault (Err error.FrameFault) = true
is_fault _ = false

-- What a poll did, for a desk of number k.
pub record Polled (k : ℕ) (result : Result Did StageError) (old new : AppWork) (before after : Around) : Type 0 where
  -- what was given stays
  pub given : (g : Setup) → IsGiven g old → IsGiven g new
  -- it keeps its part, where all Frames are its own
  pub part : (g : Setup) (stream : List ℕ) → IsGiven g old → AreOwnFrames k after.seen →
      AppKeeps g k old.state before.seen before.ends.taken before.ends.sent stream →
      KeepsOn g k new.state before.ends.sink.bytes after stream
  -- the lists that go home are those of the packets that came back since its last Sync
  pub home : (g : Setup) (stream : List ℕ) → IsGiven g old → AreOwnFrames k after.seen →
      AppKeeps g k old.state before.seen before.ends.taken before.ends.sent stream →
      HasHome g k old before.seen before.ends.taken → HasHome g k new after.seen after.ends.taken
  -- the scene's copies stay accounted for, where the lists that go home are right
  pub counted : HoldsCopies before.told → IsHomeRight old before.told → HoldsCopies after.told
  -- it passed a line for each frame
  pub passes : PassesEnough old.state → PassesEnough new.state
  -- it tells no numbers
  pub told : new.told ≡ old.told
  -- the merges that it waited for stand in the log
  pub waited : old.state.need ≤ merges_in before.seen → new.state.need ≤ merges_in after.seen
  -- only a fault of the sink makes it keep one
  pub whole : is_fault result ≡ false → new.state.fault ≡ old.state.fault
  -- it adds at most one entry, and that is its own; each Sync retires just the frames whose pictures are wholly written
  pub adds : AppAdds k new.state.written before.seen after.seen
  pub answer : AppAnswers result k old new before after
