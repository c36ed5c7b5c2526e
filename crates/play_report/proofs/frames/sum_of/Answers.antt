use Rattle.std.proofs.Common.{arith, rules}
use Rattle.std.proofs.lemmas.Grind.{common_steps}
use Rattle.std.proofs.lemmas.List.Sums.{sum_by_more}
use Rattle.play_report.proofs.frames.sum_of.Goals as goal

pub loop-numbers-preserved : goal.loop-numbers-preserved
loop-numbers-preserved c = record {
  shown = first_of (search (rules, sum_by_more), grind (arith, common_steps, sum_by_more));
  states = first_of (search (rules, sum_by_more), grind (arith, common_steps, sum_by_more));
  visited = first_of (search (rules, sum_by_more), grind (arith, common_steps, sum_by_more));
  few_shown = omega arith;
  few_states = omega arith;
  few_visited = omega arith;
}
