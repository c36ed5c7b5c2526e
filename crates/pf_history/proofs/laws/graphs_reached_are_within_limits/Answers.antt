use Rattle.pf_history.proofs.Reach.{limits_law}
use Rattle.pf_history.proofs.laws.graphs_reached_are_within_limits.Goals as goal

pub returns : goal.returns
returns c = limits_law
