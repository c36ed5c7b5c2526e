use Rattle.pipe_core.proofs.Lives.{live_law}
use Rattle.pipe_core.proofs.laws.an_idle_core_is_settled.Goals as goal

pub returns : goal.returns
returns c = live_law
