use Rattle.pf_model.proofs.Levels.{none_below_itself}
use Rattle.pf_model.proofs.laws.low_graphs_have_no_cycle.Goals as goal

pub returns : goal.returns
returns c = none_below_itself
