use Rattle.play_fences.proofs.Showing.{one_place_law}
use Rattle.play_fences.proofs.laws.fenced_merges_have_one_place.Goals as goal

pub returns : goal.returns
returns c = one_place_law
