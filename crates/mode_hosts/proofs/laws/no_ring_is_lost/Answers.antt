use Rattle.mode_hosts.proofs.Sleepers.{bell_law}
use Rattle.mode_hosts.proofs.laws.no_ring_is_lost.Goals as goal

pub returns : goal.returns
returns c = bell_law
