use Rattle.play_fences.proofs.Showing.{places_law}
use Rattle.play_fences.proofs.laws.merge_places_determine_pictures.Goals as goal

pub returns : goal.returns
returns c = places_law
