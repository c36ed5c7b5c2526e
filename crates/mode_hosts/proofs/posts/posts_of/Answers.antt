use Rattle.mode_hosts.specs.Seats.{crew_state}
use Rattle.mode_hosts.proofs.Goes.{crew_self}
use Rattle.mode_hosts.proofs.posts.posts_of.Goals as goal

pub returns : goal.returns
returns g c =
    record {
      caller = crew_self (crew_state c.args.crews.caller);
      cull = c.post_of.ensures.post;
      draw = c.post_of-2.ensures.post;
      dbase = c.post_of-3.ensures.post;
      probe = c.post_of-4.ensures.post;
    }
