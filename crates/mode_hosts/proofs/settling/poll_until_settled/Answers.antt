use Rattle.std.proofs.Common.{◌≡◌, refl, ◌∙◌}
use Rattle.mode_hosts.specs.Seats.{app_site, dbase_site}
use Rattle.mode_hosts.proofs.Goes.{app_self, app_on, dbase_self, dbase_on}
use Rattle.mode_hosts.proofs.settling.poll_until_settled.Goals as goal

pub loop-init : goal.loop-init
loop-init g c =
    record {
      calm = refl;
      uncut = refl;
      goes = app_self (app_site c.args.app.now) (g.O.Sink.written c.args.frames.now);
      dbase = dbase_self (dbase_site c.args.dbase.now);
      posts = λ crews are. are;
    }

pub loop-preserved : goal.loop-preserved
loop-preserved g c =
    let calm : g.O.Sink.faults c.live_turn.new.frames ≡ g.O.Sink.faults c.loop.frames = c.in_ok-settled.ensures.blames in
    let uncut : (app_site c.live_turn.new.app).work.state.fault ≡ (app_site c.loop.app).work.state.fault = c.in_ok-settled.ensures.uncut in
    record {
      calm = calm ∙ c.loop.invariant.calm;
      uncut = uncut ∙ c.loop.invariant.uncut;
      goes = app_on (app_site c.args.app.now) (app_site c.loop.app) (app_site c.live_turn.new.app) (g.O.Sink.written c.args.frames.now)
          (g.O.Sink.written c.loop.frames) (g.O.Sink.written c.live_turn.new.frames) c.loop.invariant.goes c.live_turn.ensures.goes;
      dbase = dbase_on (dbase_site c.args.dbase.now) (dbase_site c.loop.dbase) (dbase_site c.live_turn.new.dbase) c.loop.invariant.dbase
          c.live_turn.ensures.dbase;
      posts = λ crews are. c.live_turn.ensures.posts crews (c.loop.invariant.posts crews are);
    }

pub returns-in_err-settled-clause-goes : goal.returns-in_err-settled-clause-goes
returns-in_err-settled-clause-goes g c =
    app_on (app_site c.args.app.now) (app_site c.loop.app) (app_site c.live_turn.new.app) (g.O.Sink.written c.args.frames.now)
    (g.O.Sink.written c.loop.frames) (g.O.Sink.written c.live_turn.new.frames) c.loop.invariant.goes c.live_turn.ensures.goes

pub returns-in_err-settled-clause-dbase : goal.returns-in_err-settled-clause-dbase
returns-in_err-settled-clause-dbase g c =
    dbase_on (dbase_site c.args.dbase.now) (dbase_site c.loop.dbase) (dbase_site c.live_turn.new.dbase) c.loop.invariant.dbase
    c.live_turn.ensures.dbase

pub returns-then-settled-clause-goes : goal.returns-then-settled-clause-goes
returns-then-settled-clause-goes g c =
    app_on (app_site c.args.app.now) (app_site c.loop.app) (app_site c.live_turn.new.app) (g.O.Sink.written c.args.frames.now)
    (g.O.Sink.written c.loop.frames) (g.O.Sink.written c.live_turn.new.frames) c.loop.invariant.goes c.live_turn.ensures.goes

pub returns-then-settled-clause-dbase : goal.returns-then-settled-clause-dbase
returns-then-settled-clause-dbase g c =
    dbase_on (dbase_site c.args.dbase.now) (dbase_site c.loop.dbase) (dbase_site c.live_turn.new.dbase) c.loop.invariant.dbase
    c.live_turn.ensures.dbase
