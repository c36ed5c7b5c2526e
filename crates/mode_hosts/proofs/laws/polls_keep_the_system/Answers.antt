use Rattle.mode_hosts.proofs.Polling.{poll_law}
use Rattle.mode_hosts.proofs.laws.polls_keep_the_system.Goals as goal

pub returns : goal.returns
returns c = poll_law
