use Rattle.pf_history.proofs.Fitting.{fit_law}
use Rattle.pf_history.proofs.laws.following_is_fitting.Goals as goal

pub returns : goal.returns
returns c = fit_law
