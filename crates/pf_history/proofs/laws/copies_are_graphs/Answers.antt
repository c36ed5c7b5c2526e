use Rattle.pf_history.proofs.Copying.{copy_law}
use Rattle.pf_history.proofs.laws.copies_are_graphs.Goals as goal

pub returns : goal.returns
returns c = copy_law
