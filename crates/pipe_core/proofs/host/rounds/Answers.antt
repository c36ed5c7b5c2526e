use Rattle.std.proofs.Common.{◌≡◌, ◌∙◌, arith}
use Rattle.pipe_core.specs.Pipes.{core_of}
use Rattle.pipe_core.proofs.Hosting.{gone_on, played_more, ended_round, ended_rounds}
use Rattle.pipe_core.proofs.host.rounds.Goals as goal

pub returns-in_err-over-clause-goes : goal.returns-in_err-over-clause-goes
returns-in_err-over-clause-goes g c = λ play ahead can keeps.
    let before = c.loop-made.invariant.goes play ahead can keeps in
    gone_on play ahead c.args.pipe.now c.loop-made.pipe c.round.new.pipe
    (g.O.Sink.written c.args.frames.now) (g.O.Sink.written c.loop-made.frames) (g.O.Sink.written c.round.new.frames) before
    (c.round.ensures.goes play ahead can before.keeps)

pub returns-then-over-clause-goes : goal.returns-then-over-clause-goes
returns-then-over-clause-goes g c = λ play ahead can keeps.
    let before = c.loop-made.invariant.goes play ahead can keeps in
    gone_on play ahead c.args.pipe.now c.loop-made.pipe c.round.new.pipe
    (g.O.Sink.written c.args.frames.now) (g.O.Sink.written c.loop-made.frames) (g.O.Sink.written c.round.new.frames) before
    (c.round.ensures.goes play ahead can before.keeps)

pub returns-then-over-clause-ended : goal.returns-then-over-clause-ended
returns-then-over-clause-ended g c = λ play ahead can free keeps unset enough.
    let before = c.loop-made.invariant.goes play ahead can keeps in
    ended_round play ahead c.loop-made._made c.in_ok-over.over (core_of play c.loop-made.pipe) (core_of play c.round.new.pipe)
    (c.loop-made.invariant.played play ahead can free keeps unset) (c.in_ok-over.ensures.polled play ahead can before.keeps) c.if-over.true

pub loop-made-preserved : goal.loop-made-preserved
loop-made-preserved g c =
    let calm : g.O.Sink.faults c.round.new.frames ≡ g.O.Sink.faults c.loop-made.frames = c.in_ok-over.ensures.blames in
    let uncut : c.round.new.pipe.app.state.fault ≡ c.loop-made.pipe.app.state.fault = c.in_ok-over.ensures.uncut in
    record {
      calm = calm ∙ c.loop-made.invariant.calm;
      uncut = uncut ∙ c.loop-made.invariant.uncut;
      goes = λ play ahead can keeps.
          let before = c.loop-made.invariant.goes play ahead can keeps in
          gone_on play ahead c.args.pipe.now c.loop-made.pipe c.round.new.pipe
          (g.O.Sink.written c.args.frames.now) (g.O.Sink.written c.loop-made.frames) (g.O.Sink.written c.round.new.frames) before
          (c.round.ensures.goes play ahead can before.keeps);
      played = λ play ahead can free keeps unset.
          let before = c.loop-made.invariant.goes play ahead can keeps in
          played_more play ahead c.loop-made._made c.in_ok-over.over (core_of play c.loop-made.pipe) (core_of play c.round.new.pipe) can free
          before.keeps.core (c.loop-made.invariant.played play ahead can free keeps unset)
          (c.in_ok-over.ensures.polled play ahead can before.keeps);
    }

pub returns-clause-ended : goal.returns-clause-ended
returns-clause-ended g c = λ play ahead can free keeps unset enough.
    let inv = c.loop-made.invariant in
    ended_rounds play ahead c.loop-made._made (core_of play c.loop-made.pipe) (inv.goes play ahead can keeps).keeps.core
    (inv.played play ahead can free keeps unset) (omega (arith, enough))
