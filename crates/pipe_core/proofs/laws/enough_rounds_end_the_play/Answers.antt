use Rattle.pipe_core.proofs.Running.{run_law}
use Rattle.pipe_core.proofs.laws.enough_rounds_end_the_play.Goals as goal

pub returns : goal.returns
returns c = run_law
