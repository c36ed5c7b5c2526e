use Rattle.std.proofs.Common.{◌≡◌, ◌&&◌, List, take, sym, ◌∙◌, subst, arith}
use Rattle.std.proofs.lemmas.Bool.{and_parts}
use Rattle.std.proofs.lemmas.List.{take_more}
use Rattle.pipe_core.specs.declared.events.Event.{Event}
use Rattle.pipe_core.specs.Pipes.{core_of}
use Rattle.pipe_core.specs.Hosts.{ArePolled}
use Rattle.pipe_core.proofs.Hosting.{stepped, gone_on, polled_more}
use Rattle.pipe_core.proofs.host.poll_each.Goals as goal

pub returns-in_err-did-clause-goes : goal.returns-in_err-did-clause-goes
returns-in_err-did-clause-goes g c = λ play ahead can keeps.
    let before = c.loop-event.invariant.goes play ahead can keeps in
    gone_on play ahead c.args.pipe.now c.loop-event.pipe c.poll_with.new.self
    (g.O.Sink.written c.args.frames.now) (g.O.Sink.written c.loop-event.frames) (g.O.Sink.written c.poll_with.new.frames) before
    (stepped play ahead _ _ c.loop-event.pipe c.poll_with.new.self _ _ (c.poll_with.ensures.lifted play ahead can before.keeps)
    (c.poll_with.ensures.wrote play ahead can before.keeps))

pub loop-event-preserved : goal.loop-event-preserved
loop-event-preserved g c =
    let calm : g.O.Sink.faults c.poll_with.new.frames ≡ g.O.Sink.faults c.loop-event.frames =
    c.in_ok-did.ensures.calm (λ is. absurd (cc)) in
    let uncut : c.poll_with.new.self.app.state.fault ≡ c.loop-event.pipe.app.state.fault = c.in_ok-did.ensures.uncut in
    let over = c.loop-event.over && c.is_over-over.result in
    record {
      calm = calm ∙ c.loop-event.invariant.calm;
      uncut = uncut ∙ c.loop-event.invariant.uncut;
      goes = λ play ahead can keeps.
          let before = c.loop-event.invariant.goes play ahead can keeps in
          gone_on play ahead c.args.pipe.now c.loop-event.pipe c.poll_with.new.self
          (g.O.Sink.written c.args.frames.now) (g.O.Sink.written c.loop-event.frames) (g.O.Sink.written c.poll_with.new.frames) before
          (stepped play ahead _ _ c.loop-event.pipe c.poll_with.new.self _ _ (c.poll_with.ensures.lifted play ahead can before.keeps)
          (c.poll_with.ensures.wrote play ahead can before.keeps));
      polled = λ play ahead can keeps.
          let before = c.loop-event.invariant.goes play ahead can keeps in
          let events = c.args.events.now in
          subst (λ (es : List Event). ArePolled play ahead es over (core_of play c.args.pipe.now) (core_of play c.poll_with.new.self))
          (sym (take_more events c.loop-event.event-index _ (omega arith)))
          (polled_more play ahead (take c.loop-event.event-index events) _ c.in_ok-did.did c.loop-event.over over (core_of play c.args.pipe.now)
          c.loop-event.pipe c.poll_with.new.self (c.loop-event.invariant.polled play ahead can keeps)
          (c.in_ok-did.ensures.lifted play ahead can before.keeps)
          (λ is.
          let parts = and_parts c.loop-event.over c.is_over-over.result is in
          (parts.0, c.is_over-over.ensures.0 parts.1)));
    }
