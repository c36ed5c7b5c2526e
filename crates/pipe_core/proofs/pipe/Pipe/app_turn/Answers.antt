use Rattle.std.proofs.Common.{Bool, Result, sym, subst}
use Rattle.stage_parts.specs.declared.answers.StageError.{StageError}
use Rattle.pipe_core.specs.declared.live.LiveTurn.TheVariants as turn
use Rattle.pipe_plays.specs.Played.{Blames}
use Rattle.pipe_plays.proofs.Ended.{blames}
use Rattle.pipe_core.specs.Settling.{IsIdleTurn, TurnsGo}
use Rattle.pipe_core.proofs.Settling.{none_goes, wants_idle, app_goes, past_over, done_blames}
use Rattle.pipe_core.proofs.pipe.Pipe.app_turn.Goals as goal

pub returns-then-wants_line-clause-goes : goal.returns-then-wants_line-clause-goes
returns-then-wants_line-clause-goes g c = λ play ahead can keeps.
    let p = c.args.self.now in
    none_goes play ahead (IsIdleTurn play ahead turn.App) p (g.O.Sink.written c.args.frames.now) keeps
    (wants_idle play ahead p keeps (c.wants_line.ensures.bare c.if-wants_line.true) (c.wants_line.ensures.all c.if-wants_line.true))

pub returns-clause-goes : goal.returns-clause-goes
returns-clause-goes g c = λ play ahead can keeps.
    let p = c.args.self.now in
    let q = c.app_event.new.self in
    let lifted = c.app_event.ensures.lifted play ahead can.few_ahead.0 keeps in
    subst (λ (r : Result Bool StageError). TurnsGo play ahead (IsIdleTurn play ahead turn.App) r p q
    (g.O.Sink.written c.args.frames.now) (g.O.Sink.written c.app_event.new.frames)) (sym c.has_done.ensures)
    (app_goes play ahead c.app_event.result p q _ _ keeps lifted
    (λ going. lifted.going going (past_over play ahead p keeps (c.wants_line.ensures.none c.if-wants_line.false))))

pub returns-clause-blames : goal.returns-clause-blames
returns-clause-blames g c =
    let e = c.app_event.ensures in
    subst (λ (r : Result Bool StageError). Blames r (g.O.Sink.faults c.args.frames.now) (g.O.Sink.faults c.app_event.new.frames)
    (g.O.Sink.at_fault c.app_event.new.frames) (g.O.Sink.written c.app_event.new.frames)) (sym c.has_done.ensures)
    (done_blames c.app_event.result _ _ _ _ (blames c.app_event.result _ _ _ _ e.fault e.last e.calm))
