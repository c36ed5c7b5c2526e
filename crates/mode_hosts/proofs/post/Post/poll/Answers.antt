use Rattle.mode_hosts.specs.Seats.{crew_state}
use Rattle.mode_hosts.proofs.Goes.{crew_on}
use Rattle.mode_hosts.proofs.post.Post.poll.Goals as goal

pub returns-in-Here : goal.returns-in-Here
returns-in-Here g c = λ crew is.
    let here = rw c.in-Here.is at is in
    crew_on (crew_state crew) (crew_state c.in-Here.stay.crew) (crew_state c.poll.new.self) here c.poll.ensures
