use Rattle.mode_hosts.proofs.Sleepers.{hosts_law}
use Rattle.mode_hosts.proofs.laws.sleeping_hosts_have_left.Goals as goal

pub returns : goal.returns
returns c = hosts_law
