use Rattle.pf_model.proofs.Apart.{agree_at}
use Rattle.pf_model.proofs.laws.a_change_is_seen_above_it_alone.Goals as goal

pub returns : goal.returns
returns c = agree_at
