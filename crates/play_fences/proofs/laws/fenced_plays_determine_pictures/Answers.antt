use Rattle.play_fences.proofs.Showing.{fenced_law}
use Rattle.play_fences.proofs.laws.fenced_plays_determine_pictures.Goals as goal

pub returns : goal.returns
returns c = fenced_law
