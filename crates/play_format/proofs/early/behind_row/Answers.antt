use Rattle.play_format.proofs.EarlyLemmas.{end_whole, end_of_end}
use Rattle.play_format.proofs.early.behind_row.Goals as goal

pub loop-line-init : goal.loop-line-init
loop-line-init c = end_whole c.args.text.now

pub loop-line-preserved : goal.loop-line-preserved
loop-line-preserved c = end_of_end c.args.text.now c.loop-line.rest.now c.in-Some.behind.now c.loop-line.invariant c.in-Some.ensures.end
