-- A live report: the lines of entries and of frames, in the order in which they were told.
use Rattle.std.specs.Prelude.{◌≡◌, ℕ, ◌+◌, List, [], ◌∷◌, ◌++◌}
use Rattle.draw_list.specs.declared.stats.Stats.{Stats}
use Rattle.pf_history.specs.declared.commands.Entry.{Entry}
use Rattle.pf_history.specs.Logs.{Log}
use Rattle.play_report.specs.Entries.{entry_text}
use Rattle.play_report.specs.Frames.{frame_text}

-- what one line tells: an entry, beside the number of its seat; or the numbers of a frame whose picture came back
pub data ReportItem : Type 0 where
  EntryItem : ℕ × Entry → ReportItem
  FrameItem : Stats → ReportItem

-- the entries among items
abbrev pub entries_in : List ReportItem → Log
entries_in [] = []
entries_in (EntryItem e ∷ items) = e ∷ entries_in items
entries_in (FrameItem s ∷ items) = entries_in items

-- the numbers of frames among them
abbrev pub frames_in : List ReportItem → List Stats
frames_in [] = []
frames_in (EntryItem e ∷ items) = frames_in items
frames_in (FrameItem s ∷ items) = s ∷ frames_in items

-- the lines of items, of which the first frame has this number
abbrev pub report_lines : ℕ → List ReportItem → List ℕ
report_lines frame [] = []
report_lines frame (EntryItem e ∷ items) = entry_text e.1 ++ report_lines frame items
report_lines frame (FrameItem s ∷ items) = frame_text frame s ++ report_lines (frame + 1) items

-- The bytes tell these entries in order, and these numbers of frames in order, the frames counted from 1.
pub record IsLiveReport (log : Log) (stats : List Stats) (bytes : List ℕ) : Type 0 where
  pub items : List ReportItem
  pub entries : entries_in items ≡ log
  pub frames : frames_in items ≡ stats
  pub lines : bytes ≡ report_lines 1 items
