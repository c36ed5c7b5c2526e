use Rattle.std.proofs.Common.{◌≡◌, ◌≤◌, take}
use Rattle.pf_history.specs.Commands.{is_merge}
use Rattle.pf_history.specs.Logs.{how_many}
use Rattle.play_report.proofs.reports.merges_in.Given as goal

abbrev pub invariant-loop-numbered : goal.invariant-loop-numbered
invariant-loop-numbered l = record {
  so_far : l.merges ≡ how_many is_merge (take l.numbered-index l.entries);
  few : l.merges ≤ l.numbered-index;
}
