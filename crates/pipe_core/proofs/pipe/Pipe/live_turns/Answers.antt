use Rattle.std.proofs.Common.{◌≡◌, ◌||◌, List, [], take, Ok, refl, sym, ◌∙◌, subst, arith}
use Rattle.std.proofs.lemmas.List.{take_all, take_more}
use Rattle.std.proofs.lemmas.Result.{err_from_is_err_and}
use Rattle.pipe_core.specs.declared.live.LiveTurn.{LiveTurn}
use Rattle.pipe_core.specs.Settling.{AreIdle, TurnsGo}
use Rattle.pipe_core.proofs.Settling.{none_goes, goes_more, goes_short}
use Rattle.pipe_core.proofs.pipe.Pipe.live_turns.Goals as goal

pub loop-turn-init : goal.loop-turn-init
loop-turn-init g c =
    record {
      calm = refl;
      goes = λ play ahead can keeps. none_goes play ahead (AreIdle play ahead []) c.args.self.now (g.O.Sink.written c.args.frames.now) keeps tt;
    }

pub loop-turn-preserved : goal.loop-turn-preserved
loop-turn-preserved g c =
    let calm : g.O.Sink.faults c.live_turn.new.frames ≡ g.O.Sink.faults c.loop-turn.frames = c.in_ok-one.ensures.blames in
    record {
      calm = calm ∙ c.loop-turn.invariant.calm;
      goes = λ play ahead can keeps.
          let before = c.loop-turn.invariant.goes play ahead can keeps in
          let turns = c.args.turns.now in
          subst (λ (ts : List LiveTurn). TurnsGo play ahead (AreIdle play ahead ts) (Ok (c.loop-turn.some || c.in_ok-one.one)) c.args.self.now c.live_turn.new.self
          (g.O.Sink.written c.args.frames.now) (g.O.Sink.written c.live_turn.new.frames))
          (sym (take_more turns c.loop-turn.turn-index _ (omega arith)))
          (goes_more play ahead (take c.loop-turn.turn-index turns) _ c.loop-turn.some c.in_ok-one.one c.args.self.now c.loop-turn.self c.live_turn.new.self
          (g.O.Sink.written c.args.frames.now) (g.O.Sink.written c.loop-turn.frames) (g.O.Sink.written c.live_turn.new.frames) before
          (c.in_ok-one.ensures.goes play ahead can before.keeps));
    }

pub returns-in_err-one-clause-goes : goal.returns-in_err-one-clause-goes
returns-in_err-one-clause-goes g c = λ play ahead can keeps.
    let before = c.loop-turn.invariant.goes play ahead can keeps in
    let p = err_from_is_err_and c.from_residual.result c.from_residual.ensures.1 in
    rw p.1
    (goes_short play ahead _ _ _ c.loop-turn.some _ _ c.args.self.now c.loop-turn.self c.live_turn.new.self _ _ _ before
    (c.in_err-one.ensures.goes play ahead can before.keeps))

pub returns-clause-goes : goal.returns-clause-goes
returns-clause-goes g c = λ play ahead can keeps.
    subst (λ (ts : List LiveTurn). TurnsGo play ahead (AreIdle play ahead ts) (Ok c.loop-turn.some) c.args.self.now c.loop-turn.self
    (g.O.Sink.written c.args.frames.now) (g.O.Sink.written c.loop-turn.frames))
    (take_all c.loop-turn.turn-index c.args.turns.now (omega arith)) (c.loop-turn.invariant.goes play ahead can keeps)
