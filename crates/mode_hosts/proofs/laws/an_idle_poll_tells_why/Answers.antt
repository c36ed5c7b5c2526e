use Rattle.mode_hosts.proofs.Answering.{answer_law}
use Rattle.mode_hosts.proofs.laws.an_idle_poll_tells_why.Goals as goal

pub returns : goal.returns
returns c = answer_law
