use Rattle.std.proofs.Common.{◌≡◌, refl, ◌∙◌}
use Rattle.mode_hosts.specs.Seats.{app_site}
use Rattle.mode_hosts.proofs.Goes.{app_self, app_on}
use Rattle.mode_hosts.proofs.caller.run_here.Goals as goal

pub loop-init : goal.loop-init
loop-init g c =
    record {
      calm = refl;
      uncut = refl;
      goes = app_self (app_site c.args.app.now) (g.O.Sink.written c.args.frames.now);
      posts = λ crews are. are;
    }

pub loop-preserved : goal.loop-preserved
loop-preserved g c =
    let calm : g.O.Sink.faults c.turn.new.frames ≡ g.O.Sink.faults c.loop.frames = c.in_ok-over.ensures.blames in
    let uncut : (app_site c.turn.new.app).work.state.fault ≡ (app_site c.loop.app).work.state.fault = c.in_ok-over.ensures.uncut in
    record {
      calm = calm ∙ c.loop.invariant.calm;
      uncut = uncut ∙ c.loop.invariant.uncut;
      goes = app_on (app_site c.args.app.now) (app_site c.loop.app) (app_site c.turn.new.app) (g.O.Sink.written c.args.frames.now)
          (g.O.Sink.written c.loop.frames) (g.O.Sink.written c.turn.new.frames) c.loop.invariant.goes c.turn.ensures.goes;
      posts = λ crews are. c.turn.ensures.posts crews (c.loop.invariant.posts crews are);
    }

pub returns-in_err-over-clause-goes : goal.returns-in_err-over-clause-goes
returns-in_err-over-clause-goes g c =
    app_on (app_site c.args.app.now) (app_site c.loop.app) (app_site c.turn.new.app) (g.O.Sink.written c.args.frames.now)
    (g.O.Sink.written c.loop.frames) (g.O.Sink.written c.turn.new.frames) c.loop.invariant.goes c.turn.ensures.goes

pub returns-then-over-clause-goes : goal.returns-then-over-clause-goes
returns-then-over-clause-goes g c =
    app_on (app_site c.args.app.now) (app_site c.loop.app) (app_site c.turn.new.app) (g.O.Sink.written c.args.frames.now)
    (g.O.Sink.written c.loop.frames) (g.O.Sink.written c.turn.new.frames) c.loop.invariant.goes c.turn.ensures.goes
