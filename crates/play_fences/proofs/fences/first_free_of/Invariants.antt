use Rattle.std.proofs.Common.{◌≤◌, drop}
use Rattle.play_fences.proofs.Walking.{IsPassed}
use Rattle.play_fences.proofs.fences.first_free_of.Given as goal

abbrev pub invariant-loop-line : goal.invariant-loop-line
invariant-loop-line l = record {
  passed : IsPassed l.fn.app l.fn.dbase (drop l.line-index l.dbase) l.rest.waited l.rest.lines.now l.passed l.awaited l.merges;
  count : l.merges ≤ l.line-index;
}
