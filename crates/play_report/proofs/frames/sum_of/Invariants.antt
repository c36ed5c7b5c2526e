use Rattle.std.proofs.Common.{◌≡◌, ◌*◌, ◌≤◌, take}
use Rattle.stage_parts.specs.Pictures.{sums}
use Rattle.play_report.proofs.frames.sum_of.Given as goal

abbrev pub invariant-loop-numbers : goal.invariant-loop-numbers
invariant-loop-numbers l = record {
  shown : l.totals.shown ≡ (sums (take l.numbers-index l.stats)).shown;
  states : l.totals.states ≡ (sums (take l.numbers-index l.stats)).states;
  visited : l.totals.visited ≡ (sums (take l.numbers-index l.stats)).visited;
  few_shown : l.totals.shown ≤ l.numbers-index * 4294967295;
  few_states : l.totals.states ≤ l.numbers-index * 4294967295;
  few_visited : l.totals.visited ≤ l.numbers-index * 4294967295;
}
