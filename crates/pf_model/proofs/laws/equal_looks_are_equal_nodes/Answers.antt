use Rattle.pf_model.proofs.Named.{nodes_same}
use Rattle.pf_model.proofs.laws.equal_looks_are_equal_nodes.Goals as goal

pub returns : goal.returns
returns c = nodes_same
