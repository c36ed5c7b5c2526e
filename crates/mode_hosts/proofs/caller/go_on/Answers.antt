use Rattle.std.proofs.Common.{◌≡◌, refl, ◌∙◌}
use Rattle.mode_hosts.specs.Seats.{app_site}
use Rattle.mode_hosts.proofs.Goes.{app_self, app_on}
use Rattle.mode_hosts.proofs.caller.go_on.Goals as goal

pub loop-poll-init : goal.loop-poll-init
loop-poll-init g c =
    record {
      calm = refl;
      uncut = refl;
      goes = app_self (app_site c.args.app.now) (g.O.Sink.written c.args.frames.now);
    }

pub loop-poll-preserved : goal.loop-poll-preserved
loop-poll-preserved g c =
    let calm : g.O.Sink.faults c.poll_app.new.frames ≡ g.O.Sink.faults c.loop-poll.frames = c.in_ok-did.ensures.blames in
    let uncut : (app_site c.poll_app.new.app).work.state.fault ≡ (app_site c.loop-poll.app).work.state.fault = c.in_ok-did.ensures.uncut in
    record {
      calm = calm ∙ c.loop-poll.invariant.calm;
      uncut = uncut ∙ c.loop-poll.invariant.uncut;
      goes = app_on (app_site c.args.app.now) (app_site c.loop-poll.app) (app_site c.poll_app.new.app) (g.O.Sink.written c.args.frames.now)
          (g.O.Sink.written c.loop-poll.frames) (g.O.Sink.written c.poll_app.new.frames) c.loop-poll.invariant.goes c.poll_app.ensures.goes;
    }

pub returns-in_err-did-clause-goes : goal.returns-in_err-did-clause-goes
returns-in_err-did-clause-goes g c =
    app_on (app_site c.args.app.now) (app_site c.loop-poll.app) (app_site c.poll_app.new.app) (g.O.Sink.written c.args.frames.now)
    (g.O.Sink.written c.loop-poll.frames) (g.O.Sink.written c.poll_app.new.frames) c.loop-poll.invariant.goes c.poll_app.ensures.goes

pub returns-then-has_rung_since-clause-goes : goal.returns-then-has_rung_since-clause-goes
returns-then-has_rung_since-clause-goes g c = c.loop-poll.invariant.goes

pub returns-then-ne-clause-goes : goal.returns-then-ne-clause-goes
returns-then-ne-clause-goes g c =
    app_on (app_site c.args.app.now) (app_site c.loop-poll.app) (app_site c.poll_app.new.app) (g.O.Sink.written c.args.frames.now)
    (g.O.Sink.written c.loop-poll.frames) (g.O.Sink.written c.poll_app.new.frames) c.loop-poll.invariant.goes c.poll_app.ensures.goes
