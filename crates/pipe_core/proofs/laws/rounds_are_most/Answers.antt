use Rattle.pipe_core.proofs.Rounds.{cutting_law}
use Rattle.pipe_core.proofs.laws.rounds_are_most.Goals as goal

pub returns : goal.returns
returns c = cutting_law
