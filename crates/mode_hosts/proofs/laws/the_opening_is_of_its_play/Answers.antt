use Rattle.mode_hosts.proofs.Polling.{opening_law}
use Rattle.mode_hosts.proofs.laws.the_opening_is_of_its_play.Goals as goal

pub returns : goal.returns
returns c = opening_law
