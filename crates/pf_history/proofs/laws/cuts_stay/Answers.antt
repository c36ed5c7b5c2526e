use Rattle.pf_history.proofs.Cutting.{cuts_stay_law}
use Rattle.pf_history.proofs.laws.cuts_stay.Goals as goal

pub returns : goal.returns
returns c = cuts_stay_law
