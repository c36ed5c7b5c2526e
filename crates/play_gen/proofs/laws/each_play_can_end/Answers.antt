use Rattle.play_gen.proofs.EndLemmas.{can_end}
use Rattle.play_gen.proofs.laws.each_play_can_end.Goals as goal

pub returns : goal.returns
returns c = can_end
