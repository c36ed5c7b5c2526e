use Rattle.mode_hosts.proofs.Closed.{link_front}
use Rattle.mode_hosts.proofs.gathering.link_home.Goals as goal

pub returns : goal.returns
returns c = let h = c.home.ensures in link_front _ _ _ _ _ h.all h.sent h.taken
