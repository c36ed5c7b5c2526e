use Rattle.std.proofs.Common.{◌≡◌, ◌≤◌, take}
use Rattle.pf_history.specs.Commands.{is_frame}
use Rattle.pf_history.specs.Logs.{how_many}
use Rattle.play_report.proofs.reports.frames_in.Given as goal

abbrev pub invariant-loop-numbered : goal.invariant-loop-numbered
invariant-loop-numbered l = record {
  so_far : l.frames ≡ how_many is_frame (take l.numbered-index l.entries);
  few : l.frames ≤ l.numbered-index;
}
