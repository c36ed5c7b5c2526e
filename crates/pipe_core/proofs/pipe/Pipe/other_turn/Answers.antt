use Rattle.std.proofs.Common.{Bool, Result, sym, subst}
use Rattle.stage_parts.specs.declared.answers.StageError.{StageError}
use Rattle.pipe_plays.specs.Played.{Blames}
use Rattle.pipe_plays.proofs.Ended.{blames}
use Rattle.pipe_core.specs.Waits.{IsIdleEvent}
use Rattle.pipe_core.specs.Settling.{TurnsGo}
use Rattle.pipe_core.proofs.Settling.{other_goes, done_blames}
use Rattle.pipe_core.proofs.pipe.Pipe.other_turn.Goals as goal

pub returns-clause-goes : goal.returns-clause-goes
returns-clause-goes g c = λ play ahead can keeps.
    let p = c.args.self.now in
    let q = c.poll_with.new.self in
    let e = c.poll_with.ensures in
    subst (λ (r : Result Bool StageError). TurnsGo play ahead (IsIdleEvent play ahead c.args.event) r p q
    (g.O.Sink.written c.args.frames.now) (g.O.Sink.written c.poll_with.new.frames)) (sym c.has_done.ensures)
    (other_goes play ahead c.args.event c.poll_with.result p q _ _ (e.lifted play ahead can keeps) (e.wrote play ahead can keeps)
    (e.app c.requires.other))

pub returns-clause-blames : goal.returns-clause-blames
returns-clause-blames g c =
    let e = c.poll_with.ensures in
    subst (λ (r : Result Bool StageError). Blames r (g.O.Sink.faults c.args.frames.now) (g.O.Sink.faults c.poll_with.new.frames)
    (g.O.Sink.at_fault c.poll_with.new.frames) (g.O.Sink.written c.poll_with.new.frames)) (sym c.has_done.ensures)
    (done_blames c.poll_with.result _ _ _ _ (blames c.poll_with.result _ _ _ _ e.fault e.last e.calm))
