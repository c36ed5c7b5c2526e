use Rattle.mode_hosts.specs.Seats.{crew_state}
use Rattle.mode_hosts.proofs.Goes.{crew_on}
use Rattle.mode_hosts.proofs.posts.Posts.poll.Goals as goal

pub returns : goal.returns
returns g c = λ crews are.
    record {
      caller = crew_on (crew_state crews.caller) (crew_state c.args.self.now.caller) (crew_state c.poll-caller.new.self) are.caller
          c.poll-caller.ensures;
      cull = c.poll.ensures crews.cull are.cull;
      draw = c.poll-2.ensures crews.draw are.draw;
      dbase = c.poll-3.ensures crews.dbase are.dbase;
      probe = c.poll-4.ensures crews.probe are.probe;
    }
