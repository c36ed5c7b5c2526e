use Rattle.play_fences.proofs.Showing.{no_merges_law}
use Rattle.play_fences.proofs.laws.plays_without_merges_determine_pictures.Goals as goal

pub returns : goal.returns
returns c = no_merges_law
