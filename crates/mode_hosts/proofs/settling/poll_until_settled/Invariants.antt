use Rattle.std.proofs.Common.{◌≡◌}
use Rattle.pf_io.specs.Causes.{Calm}
use Rattle.mode_hosts.specs.declared.modes.Crews.{Crews}
use Rattle.mode_hosts.specs.Sites.{AppGoes, DbaseGoes}
use Rattle.mode_hosts.specs.Seats.{app_site, dbase_site}
use Rattle.mode_hosts.specs.Posts.{ArePosts}
use Rattle.mode_hosts.proofs.settling.poll_until_settled.Given as goal

-- the turns so far answered no error, and the sink met no fault
abbrev pub invariant-loop : goal.invariant-loop
invariant-loop g l =
    record {
      calm : Calm (g.O.Sink.faults l.fn.frames) (g.O.Sink.faults l.frames);
      uncut : (app_site l.app).work.state.fault ≡ (app_site l.fn.app).work.state.fault;
      goes : AppGoes (app_site l.fn.app) (app_site l.app) (g.O.Sink.written l.fn.frames) (g.O.Sink.written l.frames);
      dbase : DbaseGoes (dbase_site l.fn.dbase) (dbase_site l.dbase);
      posts : (crews : Crews g.row.R.Denot) → ArePosts crews l.fn.posts → ArePosts crews l.posts;
    }
