use Rattle.pipe_core.proofs.Progress.{progress}
use Rattle.pipe_core.proofs.laws.the_core_makes_progress.Goals as goal

pub returns : goal.returns
returns c = progress
