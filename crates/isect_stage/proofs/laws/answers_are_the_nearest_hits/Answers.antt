use Rattle.isect_stage.proofs.Links.{nearest_hits_law}
use Rattle.isect_stage.proofs.laws.answers_are_the_nearest_hits.Goals as goal

pub returns : goal.returns
returns c = nearest_hits_law
