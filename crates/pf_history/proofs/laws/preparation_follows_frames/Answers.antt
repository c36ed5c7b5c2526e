use Rattle.pf_history.proofs.Folds.{preparation_law}
use Rattle.pf_history.proofs.laws.preparation_follows_frames.Goals as goal

pub returns : goal.returns
returns c = preparation_law
