use Rattle.mode_hosts.proofs.posts.Posts.back.Goals as goal

pub returns : goal.returns
returns g c = λ crews at.
    record {
      caller = at.caller;
      cull = c.back.ensures crews.cull at.cull;
      draw = c.back-2.ensures crews.draw at.draw;
      dbase = c.back-3.ensures crews.dbase at.dbase;
      probe = c.back-4.ensures crews.probe at.probe;
    }
