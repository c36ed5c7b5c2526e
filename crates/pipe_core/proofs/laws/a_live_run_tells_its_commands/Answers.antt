use Rattle.pipe_core.proofs.Making.{live_runs}
use Rattle.pipe_core.proofs.laws.a_live_run_tells_its_commands.Goals as goal

pub returns : goal.returns
returns c = live_runs c.a_pipe_catches_up.ensures
