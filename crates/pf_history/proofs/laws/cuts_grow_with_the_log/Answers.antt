use Rattle.pf_history.proofs.Cutting.{cuts_law}
use Rattle.pf_history.proofs.laws.cuts_grow_with_the_log.Goals as goal

pub returns : goal.returns
returns c = cuts_law
