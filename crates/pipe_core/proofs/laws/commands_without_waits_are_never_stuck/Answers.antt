use Rattle.pipe_core.proofs.NoWaits.{no_wait_law}
use Rattle.pipe_core.proofs.laws.commands_without_waits_are_never_stuck.Goals as goal

pub returns : goal.returns
returns c = no_wait_law
