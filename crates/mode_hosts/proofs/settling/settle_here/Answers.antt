use Rattle.std.proofs.Common.{sym, subst}
use Rattle.mode_hosts.specs.Sites.{AppGoes}
use Rattle.mode_hosts.specs.Seats.{app_site}
use Rattle.mode_hosts.proofs.settling.settle_here.Goals as goal

pub returns-clause-goes : goal.returns-clause-goes
returns-clause-goes g c =
    subst (AppGoes (app_site c.args.app.now) (app_site c.poll_until_settled.new.app) (g.O.Sink.written c.args.frames.now))
    (sym c.flush_frames.ensures.bytes) c.poll_until_settled.ensures.goes
