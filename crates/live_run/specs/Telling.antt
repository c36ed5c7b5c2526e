-- What telling comes to.
use Rattle.std.specs.Prelude.{◌≡◌, ℕ, ◌+◌, List, ◌++◌, length, Option}
use Rattle.draw_list.specs.declared.stats.Stats.{Stats}
use Rattle.nearest_hit.specs.declared.segment.Segment.{Segment}
use Rattle.pf_history.specs.Logs.{Log}
use Rattle.play_format.specs.Plays.{Script}
use Rattle.mode_hosts.specs.declared.live.LivePipe.{LivePipe}
use Rattle.mode_hosts.specs.Lives.{stats_of, LiveBlames, IsLive, LiveKeeps, LiveRests}
use Rattle.live_run.specs.Reports.{ReportItem, entries_in, frames_in, report_lines}
use Rattle.live_run.specs.Driven.{told_log, told_stats}

-- The lines of entries and of frames were appended to a text, the frames numbered from behind `frame` on.
pub record Lists (frame : ℕ) (log : Log) (stats : List Stats) (text text' : List ℕ) : Type 0 where
  pub items : List ReportItem
  pub entries : entries_in items ≡ log
  pub frames : frames_in items ≡ stats
  pub lines : text' ≡ text ++ report_lines (frame + 1) items

module _ {R G : Type 0} where
  -- What was told now, of entries and of numbers of frames, was appended to a text, the frames numbered from behind `frame`,
  -- the number of those told before, up to `frame'`.
  pub record Tells (frame frame' : ℕ) (old new : LivePipe R G) (text text' : List ℕ) : Type 0 where
    pub items : List ReportItem
    pub log : told_log new ≡ told_log old ++ entries_in items
    pub stats : told_stats new ≡ told_stats old ++ frames_in items
    pub frames : frame' ≡ frame + length (frames_in items)
    pub lines : text' ≡ text ++ report_lines (frame + 1) items

  -- A front of what was told now was appended, and the rest is lost: for want of memory it left the pipe without a line.
  pub record TellsFront (frame : ℕ) (old new : LivePipe R G) (text text' : List ℕ) : Type 0 where
    pub items : List ReportItem
    pub lost : Log
    pub lost_stats : List Stats
    pub log : told_log new ≡ told_log old ++ (entries_in items ++ lost)
    pub stats : told_stats new ≡ told_stats old ++ (frames_in items ++ lost_stats)
    pub lines : text' ≡ text ++ report_lines (frame + 1) items

  -- What telling leaves as it was.
  pub record StaysLive (old new : LivePipe R G) : Type 0 where
    pub keeps : (play : Script) (ahead : ℕ) (asked : Option Segment) (bytes bytes' : Option (List ℕ)) →
        LiveKeeps play ahead asked bytes bytes' old → LiveKeeps play ahead asked bytes bytes' new
    pub live : IsLive old → IsLive new
    pub rests : LiveRests old → LiveRests new
    pub blamed : (before now : ℕ) (at_fault bytes : Option (List ℕ)) →
        LiveBlames old before now at_fault bytes → LiveBlames new before now at_fault bytes
    pub stats : stats_of new ≡ stats_of old
