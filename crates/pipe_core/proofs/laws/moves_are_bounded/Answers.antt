use Rattle.pipe_core.proofs.Running.{bound}
use Rattle.pipe_core.proofs.laws.moves_are_bounded.Goals as goal

pub returns : goal.returns
returns c = bound
