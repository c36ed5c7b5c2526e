use Rattle.isect_stage.proofs.Histories.{answers_of_history}
use Rattle.isect_stage.proofs.laws.answers_are_those_of_a_history.Goals as goal

pub returns : goal.returns
returns c = answers_of_history
