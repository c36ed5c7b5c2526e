-- The report of a history, and its summary.
use Rattle.std.specs.Prelude.{ℕ, List, ◌++◌, codes, decimal}
use Rattle.fx_math.specs.declared.lenses.Lens.{Lens}
use Rattle.pf_history.specs.Commands.{is_frame, is_merge}
use Rattle.pf_history.specs.Logs.{Log, how_many}
use Rattle.draw_list.specs.declared.stats.Stats.{Stats}
use Rattle.play_report.specs.Entries.{entry_texts}
use Rattle.stage_parts.specs.Pictures.{sums}
use Rattle.play_report.specs.Frames.{frame_texts, stats_of_frames}

-- a line for each entry, and then one for each frame, with these numbers
abbrev pub report_text : Log → List Stats → List ℕ
report_text log stats = entry_texts log ++ frame_texts 1 stats

-- the report of a log, through this lens and with so many channels
abbrev pub report : Lens → ℕ → Log → List ℕ
report lens channels log = report_text log (stats_of_frames lens channels log)

-- one line: what the play was made from, how many Frames and merges the log has, the numbers of all frames summed, and
-- the sum of all bytes of the pictures
abbrev pub summary_text : ℕ → Log → List Stats → ℕ → List ℕ
summary_text made log stats sum =
    codes "made " ++ decimal made ++ codes " frames " ++ decimal (how_many is_frame log)
    ++ codes " merges " ++ decimal (how_many is_merge log) ++ codes " shown " ++ decimal (sums stats).shown
    ++ codes " states " ++ decimal (sums stats).states ++ codes " visited " ++ decimal (sums stats).visited
    ++ codes " sum " ++ decimal sum ++ codes "\n"

-- the summary of a log, through this lens and with so many channels
abbrev pub summary : Lens → ℕ → ℕ → Log → ℕ → List ℕ
summary lens channels made log sum = summary_text made log (stats_of_frames lens channels log) sum
