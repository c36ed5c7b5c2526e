use Rattle.pf_model.proofs.Homes.{home_is}
use Rattle.pf_model.proofs.poses.View.home.Goals as goal

pub returns : goal.returns
returns c = home_is _
