use Rattle.play_fences.proofs.Moving.{free_law}
use Rattle.play_fences.proofs.laws.free_merges_have_another_place.Goals as goal

pub returns : goal.returns
returns c = free_law
