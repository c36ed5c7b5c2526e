-- How far a live run has come, between two of its steps.
use Rattle.std.specs.Prelude.{◌≡◌, ℕ, Bool, true, false, List, [], ◌∷◌, ◌++◌, length, Option, Some, None, Result, Ok, Err}
use Rattle.std.specs.Io.KnownBytes.{append_known, IsAtEnd}
use mathlib.Core.List.{IsPrefix}
use Rattle.pf_io.specs.Causes.{Calm, Rose}
use Rattle.nearest_hit.specs.declared.segment.Segment.{Segment}
use Rattle.pf_history.specs.Logs.{Log}
use Rattle.play_format.specs.Plays.{Script}
use Rattle.live_text.specs.declared.given.Given.{Given}
use Rattle.live_text.specs.LiveGrammar.{live_reading}
use Rattle.live_text.specs.LiveCommands.{LiveCommand, LiveHeader, SpellsLive, play_of}
use Rattle.live_feed.specs.Feeds.{FeedState, Fed, HasNoFeed, NextGives, EndsSo, IsGood, header_of, commands_of}
use Rattle.live_feed.specs.Laws.{blocks_in}
use Rattle.mode_hosts.specs.declared.modes.Setup.{Setup}
use Rattle.program_ends.specs.Told.{Bytes, IsTold}
use Rattle.live_run.specs.declared.halt.Halt.{Halt}
use Rattle.live_run.specs.declared.halt.Halt.TheVariants as halt
use Rattle.live_run.specs.Driven.{Driven, IsDriven, told_log}
use Rattle.live_run.specs.Reports.{ReportItem, entries_in, frames_in, report_lines}
use Rattle.live_run.specs.LiveRuns.{Takes, Begins, IsPlayAt, IsWrong}

-- What a run began with: its setup, its source, its frame sink and its report sink, and the count of faults of the latter.
pub record Start : Type 0 where
  pub setup : Setup
  pub left : Bytes
  pub frames : Bytes
  pub report : Bytes
  pub faults : ℕ

-- Of the text

-- what an answer says of the source's count of faults
abbrev pub ReadBlames : {A : Type 0} → Result A Halt → (before now : ℕ) → Type 0
ReadBlames (Err halt.ReadFault) before now = Rose before now
ReadBlames r before now = Calm before now

-- what reading on leaves: a piece more, the end, or a fault
abbrev pub ReadsOn : (left left' : Bytes) → List ℕ → List Given → FeedState → Result Bool Halt → Type 0
ReadsOn left left' text gs f (Ok true) = (piece : List ℕ) × Takes left left' (text ++ piece) × Fed (text ++ piece) gs f
ReadsOn left left' text gs f (Ok false) = Takes left left' text × IsAtEnd left' × Fed text gs f
ReadsOn left left' text gs f (Err halt.ReadFault) = Takes left left' text × Fed text gs f
ReadsOn left left' text gs f (Err halt.Broken) = (piece : List ℕ) × Takes left left' (text ++ piece) × Fed text gs f
ReadsOn left left' text gs f (Err h) = ⊥

-- what comes next of what was read
abbrev pub NextSo : List ℕ → List Given → FeedState → Result (Option Given) Halt → Type 0
NextSo text gs f (Ok (Some g)) = Fed text (gs ++ g ∷ []) f × IsGood (header_of gs) g
NextSo text gs f (Ok None) = Fed text gs f × HasNoFeed f.rest
NextSo text gs f (Err (halt.Refused r)) = Fed text gs f × ((more : List ℕ) → live_reading (text ++ more) ≡ Err r)
NextSo text gs f (Err halt.Broken) = Fed text gs f
NextSo text gs f (Err h) = ⊥

abbrev pub EndsHere : List ℕ → List Given → Result Unit Halt → Type 0
EndsHere text gs (Ok u) = EndsSo text gs (Ok u)
EndsHere text gs (Err (halt.Refused r)) = live_reading text ≡ Err r
EndsHere text gs (Err h) = ⊥

-- what was taken of a source whose text has no header yet, where reading it came to this
abbrev pub BeginsNot : (left left' : Bytes) → Halt → Type 0
BeginsNot left left' (halt.Refused r) = (text : List ℕ) × Takes left left' text × IsWrong text left' r
BeginsNot left left' halt.ReadFault = (text : List ℕ) × Takes left left' text
BeginsNot left left' halt.Broken = (text : List ℕ) × Takes left left' text
BeginsNot left left' h = ⊥

-- no header came so far
pub record NotYet (left left' : Bytes) (f : FeedState) : Type 0 where
  pub text : List ℕ
  pub taken : Takes left left' text
  pub fed : Fed text [] f

-- Of the pipe

-- The lines of some entries of a log, from the first on, and of frames stand on the report sink.
pub record ReportsFront (log : Log) (report report' : Bytes) (before now : ℕ) : Type 0 where
  pub items : List ReportItem
  pub front : IsPrefix (entries_in items) log
  pub lines : report' ≡ append_known report (report_lines 1 items)
  pub calm : Calm before now

-- Such lines stand there up to a fault.
pub record ReportsCut (log : Log) (report report' : Bytes) (before now : ℕ) : Type 0 where
  pub items : List ReportItem
  pub front : IsPrefix (entries_in items) log
  pub lines : IsTold report report' before now (report_lines 1 items)
  pub rose : Rose before now

module _ {R G : Type 0} where
  -- The pipe was given these commands.
  pub record Plays (h : LiveHeader) (cs : List LiveCommand) (ahead : ℕ) (asked : Option Segment) (bytes bytes' : Bytes) (l : Driven R G) :
      Type 0 where
    pub driven : IsDriven (play_of h cs) ahead asked bytes bytes' l
    pub blocks : l.blocks ≡ blocks_in cs

  -- The pipe was given these commands, and may be a block more of which memory kept the application from waiting.
  pub record PlaysSome (h : LiveHeader) (cs : List LiveCommand) (ahead : ℕ) (asked : Option Segment) (bytes bytes' : Bytes) (l : Driven R G) :
      Type 0 where
    pub play : Script
    pub is_play : IsPlayAt h cs play
    pub driven : IsDriven play ahead asked bytes bytes' l

  -- What the pipe told stands on the report sink.
  pub record HasTold (report report' : Bytes) (before now : ℕ) (l : Driven R G) : Type 0 where
    pub items : List ReportItem
    pub log : entries_in items ≡ told_log l.pipe
    pub count : l.frames ≡ length (frames_in items)
    pub lines : report' ≡ append_known report (report_lines 1 items)
    pub calm : Calm before now

  -- what stands on the report sink of a run that reads no further
  abbrev pub HaltTold : Halt → (report report' : Bytes) → (before now : ℕ) → Driven R G → Type 0
  HaltTold halt.ReportFault report report' before now l = ReportsCut (told_log l.pipe) report report' before now
  HaltTold halt.Untold report report' before now l = ReportsFront (told_log l.pipe) report report' before now
  HaltTold h report report' before now l = HasTold report report' before now l

  -- what stands there by what a step of the run came to
  abbrev pub ToldAt : {A : Type 0} → Result A Halt → (report report' : Bytes) → (before now : ℕ) → Driven R G → Type 0
  ToldAt (Ok x) report report' before now l = HasTold report report' before now l
  ToldAt (Err h) report report' before now l = HaltTold h report report' before now l

  -- The run has read this text, and the pipe was given what is whole of it.
  pub record RunsOn (s : Start) (left frames report : Bytes) (faults : ℕ) (f : FeedState) (l : Driven R G) : Type 0 where
    pub text : List ℕ
    pub gs : List Given
    pub h : LiveHeader
    pub taken : Takes s.left left text
    pub fed : Fed text gs f
    pub header : header_of gs ≡ Some h
    pub plays : Plays h (commands_of gs) s.setup.ahead s.setup.probe s.frames frames l
    pub told : HasTold s.report report s.faults faults l

  -- The text gave a header, and a pipe was opened.
  pub record Opens (text : List ℕ) (f : FeedState) (setup : Setup) (frames report : Bytes) (faults : ℕ) (l : Driven R G) : Type 0 where
    pub gs : List Given
    pub h : LiveHeader
    pub fed : Fed text gs f
    pub header : header_of gs ≡ Some h
    pub plays : Plays h (commands_of gs) setup.ahead setup.probe frames frames l
    pub told : HasTold report report faults faults l

  -- The pipe was given commands that the text begins with, and may be a block more.
  pub record RunsSome (s : Start) (left frames : Bytes) (l : Driven R G) : Type 0 where
    pub text : List ℕ
    pub h : LiveHeader
    pub cs : List LiveCommand
    pub taken : Takes s.left left text
    pub begins : Begins text h cs
    pub plays : PlaysSome h cs s.setup.ahead s.setup.probe s.frames frames l

  -- The pipe was given all commands that the text begins with.
  pub record RunsCut (s : Start) (text : List ℕ) (left frames : Bytes) (l : Driven R G) : Type 0 where
    pub h : LiveHeader
    pub cs : List LiveCommand
    pub taken : Takes s.left left text
    pub begins : Begins text h cs
    pub plays : Plays h cs s.setup.ahead s.setup.probe s.frames frames l

  -- The text is a live one, which was read to its end, and the pipe was given its commands.
  pub record RunsOut (s : Start) (left frames : Bytes) (l : Driven R G) : Type 0 where
    pub text : List ℕ
    pub h : LiveHeader
    pub cs : List LiveCommand
    pub taken : Takes s.left left text
    pub at_end : IsAtEnd left
    pub spelled : SpellsLive text h cs
    pub plays : Plays h cs s.setup.ahead s.setup.probe s.frames frames l

  -- what the pipe was given by a run that reads no further
  abbrev pub HaltMade : Halt → Start → (left frames : Bytes) → Driven R G → Type 0
  HaltMade (halt.Refused r) s left frames l = (text : List ℕ) × RunsCut s text left frames l × IsWrong text left r
  HaltMade halt.ReadFault s left frames l = (text : List ℕ) × RunsCut s text left frames l
  HaltMade h s left frames l = RunsSome s left frames l

  -- what it was given by a run that came to this
  abbrev pub MadeAt : Result Unit Halt → Start → (left frames : Bytes) → Driven R G → Type 0
  MadeAt (Ok u) s left frames l = RunsOut s left frames l
  MadeAt (Err h) s left frames l = HaltMade h s left frames l

  -- what a run leaves whose pipe was given what is whole of its text, or came to this before
  abbrev pub GivesTo : Start → (left frames report : Bytes) → (faults : ℕ) → FeedState → Result Unit Halt → Driven R G → Type 0
  GivesTo s left frames report faults f (Ok u) l = RunsOn s left frames report faults f l × HasNoFeed f.rest
  GivesTo s left frames report faults f (Err (halt.Refused r)) l =
      (on : RunsOn s left frames report faults f l) × ((more : List ℕ) → live_reading (on.text ++ more) ≡ Err r)
  GivesTo s left frames report faults f (Err halt.Broken) l = RunsSome s left frames l × HasTold s.report report s.faults faults l
  GivesTo s left frames report faults f (Err h) l = ⊥

  -- what a run leaves that settled what was given, or came to this before
  abbrev pub TurnsTo : {A : Type 0} → Start → (left frames report : Bytes) → (faults : ℕ) → FeedState → Result A Halt → Driven R G → Type 0
  TurnsTo s left frames report faults f (Ok x) l = RunsOn s left frames report faults f l × HasNoFeed f.rest
  TurnsTo s left frames report faults f (Err h) l = HaltMade h s left frames l × HaltTold h s.report report s.faults faults l

-- a header came, so that what comes next is a command
abbrev pub HasHeader : FeedState → Type 0
HasHeader f = (text : List ℕ) × (gs : List Given) × (h : LiveHeader) × Fed text gs f × (header_of gs ≡ Some h)

-- these commands, and that which was given now
abbrev pub with_given : List LiveCommand → Given → List LiveCommand
with_given cs g = cs ++ commands_of (g ∷ [])
