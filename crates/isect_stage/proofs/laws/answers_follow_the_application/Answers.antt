use Rattle.isect_stage.proofs.Links.{application_law}
use Rattle.isect_stage.proofs.laws.answers_follow_the_application.Goals as goal

pub returns : goal.returns
returns c = application_law
