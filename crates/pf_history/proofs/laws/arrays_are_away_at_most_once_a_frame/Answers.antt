use Rattle.pf_history.proofs.Away.{away_law}
use Rattle.pf_history.proofs.laws.arrays_are_away_at_most_once_a_frame.Goals as goal

pub returns : goal.returns
returns c = away_law
