use Rattle.pf_history.proofs.Folds.{graves_law}
use Rattle.pf_history.proofs.laws.graves_name_begun_frames.Goals as goal

pub returns : goal.returns
returns c = graves_law
