-- The laws of a pipe that fits its play, whatever its seats.
use Rattle.std.specs.Prelude.{◌≡◌, ℕ, ◌+◌, ◌≤◌, true, List, [], slice_get, Option, Some}
use Rattle.std.specs.List.{concat}
use Rattle.std.specs.Io.KnownBytes.{append_known}
use Rattle.draw_list.specs.declared.stats.Stats.{Stats}
use Rattle.pf_history.specs.Logs.{Log, IsLegal}
use Rattle.pf_history.specs.Fits.{FitsPlay, FitsWholly}
use Rattle.pf_history.specs.Objects.{FrameState}
use Rattle.pf_history.specs.Cuts.{found_by_frames}
use Rattle.pf_history.specs.CutLaws.{has_serial, is_among, sync_entry}
use Rattle.play_format.specs.Plays.{Script}
use Rattle.stage_parts.specs.Pictures.{pictures, frame_numbers}
use Rattle.stage_parts.specs.States.{Seats, PipeState}
use Rattle.stage_parts.specs.Laws.{HasEditsInRange, HasPictures}
use Rattle.pipe_plays.specs.declared.played.PlayEnd.{PlayEnd}
use Rattle.pipe_plays.specs.declared.played.PlayEnd.TheVariants as ends
use Rattle.pipe_plays.specs.Plays.{setup_of, CanRun, FitsItsPlay, AreDone}
use Rattle.pipe_plays.specs.Played.{AddsFront, KeepsNumbers, LeavesPipe}

-- What a pipe that fits shows: its history is legal, fits the play, and has all edits in range, and its stream is whole
-- pictures of the history and a prefix of the next one.
pub record ShowsHistory (play : Script) (ahead : ℕ) (s : PipeState) : Type 0 where
  pub legal : IsLegal play.channels s.log
  pub fits : FitsPlay play.channels ahead play.app play.dbase s.log
  pub in_range : HasEditsInRange s.log
  pub shows : HasPictures (setup_of play ahead) s

-- At the end the history fits the play wholly, the stream is all its pictures, one after the other, and the numbers kept
-- are those of all its Frames.
pub record ShowsAll (play : Script) (ahead : ℕ) (s : PipeState) : Type 0 where
  pub wholly : FitsWholly play.channels ahead play.app play.dbase s.log
  pub stream : s.stream ≡ concat (pictures play.channels play.lens play.back s.log)
  pub numbers : s.app.stats ≡ frame_numbers play.channels play.lens s.log

pub record IsShown (play : Script) (ahead : ℕ) (s : PipeState) : Type 0 where
  pub now : ShowsHistory play ahead s
  pub at_end : AreDone play s → ShowsAll play ahead s

abbrev pub ShownLaw : Type 0
ShownLaw =
    (play : Script) (ahead : ℕ) (seats : Seats) (s : PipeState) → CanRun play ahead → FitsItsPlay play ahead seats s → IsShown play ahead s

-- What a play leaves that came to this end: a legal history that fits it, in the sink the history's pictures or a prefix of
-- them, and the numbers of the frames that came back.
pub record Leaves (play : Script) (ahead : ℕ) (end : PlayEnd) (log : Log) (stats : List Stats) (old new : Option (List ℕ)) : Type 0 where
  pub legal : IsLegal play.channels log
  pub fits : FitsPlay play.channels ahead play.app play.dbase log
  pub front : AddsFront play end log old new
  pub numbers : KeepsNumbers play end log stats old new

-- What it leaves where all was played.
pub record LeavesAll (play : Script) (ahead : ℕ) (log : Log) (stats : List Stats) (old new : Option (List ℕ)) : Type 0 where
  pub wholly : FitsWholly play.channels ahead play.app play.dbase log
  pub whole : new ≡ append_known old (concat (pictures play.channels play.lens play.back log))
  pub all_numbers : stats ≡ frame_numbers play.channels play.lens log

-- Where this is left of a pipe that fits the play, all of this is left.
pub record IsLeft (play : Script) (ahead : ℕ) (end : PlayEnd) (log : Log) (stats : List Stats) (old new : Option (List ℕ)) : Type 0 where
  pub now : Leaves play ahead end log stats old new
  pub all : end ≡ ends.Done → LeavesAll play ahead log stats old new

abbrev pub LeavesLaw : Type 0
LeavesLaw =
    (play : Script) (ahead : ℕ) (seats : Seats) (end : PlayEnd) (log : Log) (stats : List Stats) (old new : Option (List ℕ)) →
    CanRun play ahead → LeavesPipe play ahead seats end log stats old new → IsLeft play ahead end log stats old new

-- for want of memory before a play was begun it leaves no entries, no bytes and no numbers, as its pipe has none then
abbrev pub NothingLaw : Type 0
NothingLaw =
    (play : Script) (ahead : ℕ) (seats : Seats) (bytes : Option (List ℕ)) →
    LeavesPipe play ahead seats ends.NoMemory [] [] bytes bytes

-- A serial that a Sync of r replied stands in no frame after the first r ones, and the pictures of these were wholly
-- written.
pub record IsFreedWritten (play : Script) (s : PipeState) (r x : ℕ) : Type 0 where
  pub frames : (k : ℕ) (found : FrameState) → slice_get (found_by_frames play.channels s.log) k ≡ Some found →
      has_serial x found.graph.nodes ≡ true → k + 1 ≤ r
  pub written : r ≤ s.app.written

abbrev pub FreedLaw : Type 0
FreedLaw =
    (play : Script) (ahead : ℕ) (seats : Seats) (s : PipeState) → FitsItsPlay play ahead seats s →
    (j seat r x : ℕ) (serials : List ℕ) → slice_get s.log j ≡ Some (seat, sync_entry r serials) →
    is_among x serials ≡ true → IsFreedWritten play s r x
