use Rattle.isect_stage.proofs.Links.{links_law}
use Rattle.isect_stage.proofs.laws.two_links_are_one.Goals as goal

pub returns : goal.returns
returns c = links_law
