use Rattle.mode_hosts.proofs.Closed.{front_home}
use Rattle.mode_hosts.proofs.gathering.cuts_home.Goals as goal

pub returns : goal.returns
returns c = let h = c.home.ensures in front_home _ _ _ _ _ h.all h.sent h.taken
