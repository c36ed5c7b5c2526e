use Rattle.std.proofs.Common.{◌≡◌, Bool, Ok, refl, ◌∙◌, subst, arith}
use Rattle.std.proofs.lemmas.Result.{err_from_is_err_and}
use Rattle.pipe_core.specs.Settling.{AreIdle, round_turns, TurnsGo}
use Rattle.pipe_core.proofs.Settling.{not_gone, gone_more, gone_short, gone_settled, never_so_many}
use Rattle.pipe_core.proofs.pipe.Pipe.settle.Goals as goal

pub loop-made-init : goal.loop-made-init
loop-made-init g c =
    record { calm = refl; gone = λ play ahead can keeps. not_gone play ahead c.args.self.now (g.O.Sink.written c.args.frames.now) keeps }

pub loop-made-preserved : goal.loop-made-preserved
loop-made-preserved g c =
    let calm : g.O.Sink.faults c.live_round.new.frames ≡ g.O.Sink.faults c.loop-made.frames = c.in_ok-some.ensures.blames in
    record {
      calm = calm ∙ c.loop-made.invariant.calm;
      gone = λ play ahead can keeps.
          let before = c.loop-made.invariant.gone play ahead can keeps in
          gone_more play ahead c.loop-made._made (AreIdle play ahead round_turns) c.args.self.now c.loop-made.self c.live_round.new.self
          (g.O.Sink.written c.args.frames.now) (g.O.Sink.written c.loop-made.frames) (g.O.Sink.written c.live_round.new.frames) before
          (subst (λ (b : Bool). TurnsGo play ahead (AreIdle play ahead round_turns) (Ok b) c.loop-made.self c.live_round.new.self
          (g.O.Sink.written c.loop-made.frames) (g.O.Sink.written c.live_round.new.frames)) c.if-not-some.false
          (c.in_ok-some.ensures.goes play ahead can before.keeps));
    }

pub returns-in_err-some-clause-settles : goal.returns-in_err-some-clause-settles
returns-in_err-some-clause-settles g c = λ play ahead can keeps.
    let before = c.loop-made.invariant.gone play ahead can keeps in
    let p = err_from_is_err_and c.from_residual.result c.from_residual.ensures.1 in
    rw p.1
    (gone_short play ahead c.loop-made._made (AreIdle play ahead round_turns) _ _ c.args.self.now c.loop-made.self c.live_round.new.self _ _ _ before
    (c.in_err-some.ensures.goes play ahead can before.keeps))

pub returns-then-not-some-clause-settles : goal.returns-then-not-some-clause-settles
returns-then-not-some-clause-settles g c = λ play ahead can keeps.
    let before = c.loop-made.invariant.gone play ahead can keeps in
    gone_settled play ahead c.loop-made._made _ c.args.self.now c.loop-made.self c.live_round.new.self
    (g.O.Sink.written c.args.frames.now) (g.O.Sink.written c.loop-made.frames) (g.O.Sink.written c.live_round.new.frames) can before
    (subst (λ (b : Bool). TurnsGo play ahead (AreIdle play ahead round_turns) (Ok b) c.loop-made.self c.live_round.new.self
    (g.O.Sink.written c.loop-made.frames) (g.O.Sink.written c.live_round.new.frames)) c.if-not-some.true
    (c.in_ok-some.ensures.goes play ahead can before.keeps))

pub returns-clause-settles : goal.returns-clause-settles
returns-clause-settles g c = λ play ahead can keeps.
    never_so_many play ahead c.loop-made._made _ c.args.self.now c.loop-made.self _ _ can (c.loop-made.invariant.gone play ahead can keeps) (omega arith)
