use Rattle.pf_history.proofs.Counting.{counts_law}
use Rattle.pf_history.proofs.laws.counts_are_of_the_log.Goals as goal

pub returns : goal.returns
returns c = counts_law
