-- What a call of perfly_live leaves.
use Rattle.std.specs.Prelude.{◌≡◌, ℕ, ◌⊎◌, List, [], ◌++◌, Option, Some, Err}
use mathlib.Core.List.{IsPrefix}
use Rattle.std.specs.Io.KnownBytes.{append_known, prepend_known, IsAtEnd}
use Rattle.draw_list.specs.declared.stats.Stats.{Stats}
use Rattle.pf_model.specs.declared.lines.BaseLine.{BaseLine}
use Rattle.play_format.specs.declared.refusal.Refusal.{Refusal}
use Rattle.play_format.specs.Plays.{Script}
use Rattle.live_text.specs.LiveGrammar.{live_reading}
use Rattle.live_text.specs.LiveCommands.{LiveCommand, LiveHeader, SpellsLive, play_of}
use Rattle.pf_history.specs.Logs.{Log, IsLegal}
use Rattle.pf_history.specs.Fits.{FitsWholly}
use Rattle.pipe_plays.specs.Played.{AddsFront}
use Rattle.pipe_plays.specs.declared.played.PlayEnd.{PlayEnd}
use Rattle.pipe_plays.specs.declared.played.PlayEnd.TheVariants as end
use Rattle.mode_hosts.specs.declared.modes.Setup.{Setup}
use Rattle.mode_hosts.specs.Lives.{with_dbase}
use Rattle.program_ends.specs.declared.stop.Stop.{Stop}
use Rattle.program_ends.specs.declared.stop.Stop.TheVariants as stop
use Rattle.program_ends.specs.Statuses.{status_of, refusal_of}
use Rattle.program_ends.specs.Messages.{message_of}
use Rattle.program_ends.specs.Told.{Bytes, IsTold}
use Rattle.program_ends.specs.Played.{stream_of, FreesLate, IsPart}
use Rattle.live_run.specs.Reports.{ReportItem, entries_in, report_lines, IsLiveReport}

-- The bytes that were taken of a source.
abbrev pub Takes : (left left' : Bytes) → List ℕ → Type 0
Takes left left' text = left ≡ prepend_known text left'

-- The commands that a text begins with: a front of it spells them.
pub record Begins (text : List ℕ) (h : LiveHeader) (cs : List LiveCommand) : Type 0 where
  pub front : List ℕ
  pub behind : List ℕ
  pub parts : text ≡ front ++ behind
  pub spelled : SpellsLive front h cs

-- What holds of a play that was driven to its end: the history is one legal one-thread history that holds its calls and merges,
-- each once, in each caller's order; the stream is what one thread draws, frame by frame, without culling; and a node is freed
-- only when no undelivered frame names it.
pub record IsDrivenOut (ahead : ℕ) (play : Script) (log : Log) (frames frames' : Bytes) : Type 0 where
  pub legal : IsLegal play.channels log
  pub fits : FitsWholly play.channels ahead play.app play.dbase log
  pub stream : frames' ≡ append_known frames (stream_of play log)
  pub retired : AddsFront play end.Done log frames frames'
  pub freed : FreesLate play.channels log

-- The report of a history: the lines of all its entries in order, and of frames, numbered from 1.
abbrev pub IsReportOf : Log → List ℕ → Type 0
IsReportOf log text = (stats : List Stats) × IsLiveReport log stats text

-- A run at the end of its input: what was taken is a live text, and its play was driven to its end, and reported.
pub record IsLiveDone (meant : Option Setup) (left left' : Bytes) (log : Log) (frames frames' report report' : Bytes) : Type 0 where
  pub setup : Setup
  pub meaning : meant ≡ Some setup
  pub text : List ℕ
  pub taken : Takes left left' text
  pub at_end : IsAtEnd left'
  pub header : LiveHeader
  pub commands : List LiveCommand
  pub spelled : SpellsLive text header commands
  pub played : IsDrivenOut setup.ahead (play_of header commands) log frames frames'
  pub told : List ℕ
  pub is_report : IsReportOf log told
  pub reported : report' ≡ append_known report told

-- No pipe was opened: no entry was made, and nothing was drawn and told.
pub record IsUnopened (log : Log) (frames frames' : Bytes) : Type 0 where
  pub no_entry : log ≡ []
  pub undrawn : frames' ≡ frames

-- Commands that stand before what ended the run were driven to their end, those that the text begins with, and reported.
pub record IsLiveCut (ahead : ℕ) (text : List ℕ) (log : Log) (frames frames' : Bytes) (told : List ℕ) : Type 0 where
  pub header : LiveHeader
  pub commands : List LiveCommand
  pub begins : Begins text header commands
  pub played : IsDrivenOut ahead (play_of header commands) log frames frames'
  pub is_report : IsReportOf log told

-- What a run leaves that was ended by a wrong line or by a fault of its source: the commands before were driven to their end
-- and reported, or no header was whole.
abbrev pub LeavesCut : ℕ → List ℕ → Log → (frames frames' : Bytes) → List ℕ → Type 0
LeavesCut ahead text log frames frames' told =
    (IsUnopened log frames frames' × (told ≡ [])) ⊎ IsLiveCut ahead text log frames frames' told

-- the text is refused, whatever comes behind it, or it ends here, and is refused so
abbrev pub IsWrong : List ℕ → (left' : Bytes) → Refusal → Type 0
IsWrong text left' refusal =
    ((more : List ℕ) → live_reading (text ++ more) ≡ Err refusal) ⊎ (IsAtEnd left' × (live_reading text ≡ Err refusal))

-- The words are right, and what was taken is refused: this is its first wrong line, with the first cause against it. The report
-- comes before the message.
pub record IsLiveRefused (meant : Option Setup) (left left' : Bytes) (refusal : Refusal) (log : Log)
    (frames frames' report report' : Bytes) (before now : ℕ) : Type 0 where
  pub setup : Setup
  pub meaning : meant ≡ Some setup
  pub text : List ℕ
  pub taken : Takes left left' text
  pub refused : IsWrong text left' refusal
  pub told : List ℕ
  pub cut : LeavesCut setup.ahead text log frames frames' told
  pub message : IsTold (append_known report told) report' before now (message_of (stop.Refused refusal))

-- The words are right, and the source reported a fault behind what was taken. The report comes before the message.
pub record IsLiveUnread (meant : Option Setup) (left left' : Bytes) (log : Log) (frames frames' report report' : Bytes) (before now : ℕ) :
    Type 0 where
  pub setup : Setup
  pub meaning : meant ≡ Some setup
  pub text : List ℕ
  pub taken : Takes left left' text
  pub told : List ℕ
  pub cut : LeavesCut setup.ahead text log frames frames' told
  pub message : IsTold (append_known report told) report' before now (message_of stop.ReadFault)

-- The play of commands, or that play with a block more of which memory kept the application from waiting.
abbrev pub IsPlayAt : LiveHeader → List LiveCommand → Script → Type 0
IsPlayAt h cs play = (play ≡ play_of h cs) ⊎ ((ls : List BaseLine) × (play ≡ with_dbase (play_of h cs) ls))

-- What holds of a run however it ends, once its pipe was opened: the play of the commands that the text begins with was
-- driven so far.
pub record IsLivePart (ahead : ℕ) (text : List ℕ) (ended : PlayEnd) (log : Log) (frames frames' : Bytes) : Type 0 where
  pub header : LiveHeader
  pub commands : List LiveCommand
  pub begins : Begins text header commands
  pub play : Script
  pub is_play : IsPlayAt header commands play
  pub part : IsPart ahead play ended log frames frames'

-- The words are right, and the run came so far.
pub record IsLiveBegun (meant : Option Setup) (left left' : Bytes) (ended : PlayEnd) (log : Log) (frames frames' : Bytes) : Type 0 where
  pub setup : Setup
  pub meaning : meant ≡ Some setup
  pub text : List ℕ
  pub taken : Takes left left' text
  pub part : IsUnopened log frames frames' ⊎ IsLivePart setup.ahead text ended log frames frames'

-- The run stopped for a reason that its status tells. It told entries of the history, from the first on, and frames, and then
-- said why, up to a fault.
pub record IsLiveStopped (status : ℕ) (refusal : Option Refusal) (log : Log) (report report' : Bytes) (before now : ℕ) : Type 0 where
  pub why : Stop
  pub at_status : status ≡ status_of why
  pub with_refusal : refusal ≡ refusal_of why
  pub items : List ReportItem
  pub front : IsPrefix (entries_in items) log
  pub told : IsTold report report' before now (report_lines 1 items ++ message_of why)
