use Rattle.mode_hosts.specs.Seats.{crew_state}
use Rattle.mode_hosts.proofs.Goes.{crew_self}
use Rattle.mode_hosts.proofs.post.post_of.Goals as goal

pub returns-in-None-clause-post : goal.returns-in-None-clause-post
returns-in-None-clause-post g c = crew_self (crew_state c.args.crew)

pub returns-in_default-clause-post : goal.returns-in_default-clause-post
returns-in_default-clause-post g c = crew_self (crew_state c.args.crew)
