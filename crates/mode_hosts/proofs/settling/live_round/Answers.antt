use Rattle.mode_hosts.specs.Seats.{app_site, dbase_site}
use Rattle.mode_hosts.proofs.Goes.{app_on, dbase_self}
use Rattle.mode_hosts.proofs.settling.live_round.Goals as goal

pub returns-in_err-did-clause-dbase : goal.returns-in_err-did-clause-dbase
returns-in_err-did-clause-dbase g c = dbase_self (dbase_site c.args.dbase.now)

pub returns-in_err-more_where_calm-clause-goes : goal.returns-in_err-more_where_calm-clause-goes
returns-in_err-more_where_calm-clause-goes g c =
    app_on (app_site c.args.app.now) (app_site c.poll_going.new.app) (app_site c.more_where_calm.new.app) (g.O.Sink.written c.args.frames.now)
    (g.O.Sink.written c.poll_going.new.frames) (g.O.Sink.written c.more_where_calm.new.frames) c.poll_going.ensures.goes c.more_where_calm.ensures.goes

pub returns-clause-goes : goal.returns-clause-goes
returns-clause-goes g c =
    app_on (app_site c.args.app.now) (app_site c.poll_going.new.app) (app_site c.more_where_calm.new.app) (g.O.Sink.written c.args.frames.now)
    (g.O.Sink.written c.poll_going.new.frames) (g.O.Sink.written c.more_where_calm.new.frames) c.poll_going.ensures.goes c.more_where_calm.ensures.goes
