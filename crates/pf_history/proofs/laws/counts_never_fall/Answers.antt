use Rattle.pf_history.proofs.Counting.{never_fall_law}
use Rattle.pf_history.proofs.laws.counts_never_fall.Goals as goal

pub returns : goal.returns
returns c = never_fall_law
