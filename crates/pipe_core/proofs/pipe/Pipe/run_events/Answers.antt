use Rattle.std.proofs.Common.{◌≡◌, ℕ, List, take, Err, refl, sym, ap, ◌∙◌, subst, arith}
use Rattle.std.proofs.lemmas.List.{take_all, take_more}
use Rattle.std.proofs.lemmas.Option.{slice_get-get_or}
use Rattle.std.proofs.lemmas.Result.{err_from_is_err_and}
use Rattle.pf_io.specs.Causes.{Rose}
use Rattle.pipe_core.specs.declared.events.Event.{Event}
use Rattle.pipe_core.specs.Runs.{Ran}
use Rattle.pipe_core.specs.Pipes.{core_of, HasRun}
use Rattle.pipe_core.proofs.Openings.{not_run, run_fails, run_more, told_error, written_more}
use Rattle.pipe_core.proofs.pipe.Pipe.run_events.Goals as goal

pub loop-event-init : goal.loop-event-init
loop-event-init g c =
    record { calm = refl; run = λ play ahead can keeps. not_run play ahead c.args.self.now (g.O.Sink.written c.args.frames.now) keeps }

pub loop-event-preserved : goal.loop-event-preserved
loop-event-preserved g c =
    let calm : g.O.Sink.faults c.step.new.frames ≡ g.O.Sink.faults c.loop-event.frames = c.in_ok-step.ensures.calm (λ is. absurd (cc)) in
    record {
      calm = calm ∙ c.loop-event.invariant.calm;
      run = λ play ahead can keeps.
          let before = c.loop-event.invariant.run play ahead can keeps in
          let events = c.args.events.now in
          subst (λ (es : List Event). HasRun play ahead es c.args.self.now c.step.new.self (g.O.Sink.written c.args.frames.now) (g.O.Sink.written c.step.new.frames))
          (sym (take_more events c.loop-event.event-index _ (omega arith)))
          (run_more play ahead (take c.loop-event.event-index events) _ _ c.args.self.now c.loop-event.self c.step.new.self _ _ _ before
          (c.in_ok-step.ensures.lifted play ahead can before.keeps) (c.step.ensures.wrote play ahead can before.keeps));
    }

-- an event that answers an error

pub returns-in_err-step-clause-keeps : goal.returns-in_err-step-clause-keeps
returns-in_err-step-clause-keeps g c = λ play ahead can keeps.
    (c.step.ensures.lifted play ahead can (c.loop-event.invariant.run play ahead can keeps).keeps).keeps

pub returns-in_err-step-clause-ran : goal.returns-in_err-step-clause-ran
returns-in_err-step-clause-ran g c = λ play ahead can keeps.
    let p = err_from_is_err_and c.from_residual.result c.from_residual.ensures.1 in rw p.1 tt

pub returns-in_err-step-clause-failed : goal.returns-in_err-step-clause-failed
returns-in_err-step-clause-failed g c = λ play ahead can keeps.
    let before = c.loop-event.invariant.run play ahead can keeps in
    let p = err_from_is_err_and c.from_residual.result c.from_residual.ensures.1 in
    rw (p.1, p.2)
    (run_fails play ahead c.args.events.now c.loop-event.event-index _ _ c.args.self.now c.loop-event.self c.step.new.self _ _ before
    (slice_get-get_or c.args.events.now c.loop-event.event-index _ (omega arith)) (c.in_err-step.ensures.lifted play ahead can before.keeps))

pub returns-in_err-step-clause-wrote : goal.returns-in_err-step-clause-wrote
returns-in_err-step-clause-wrote g c = λ play ahead can keeps.
    let before = c.loop-event.invariant.run play ahead can keeps in
    written_more _ _ _ _ _ _ before.wrote (c.step.ensures.wrote play ahead can before.keeps)

pub returns-in_err-step-clause-fault : goal.returns-in_err-step-clause-fault
returns-in_err-step-clause-fault g c = λ is.
    let p = err_from_is_err_and c.from_residual.result c.from_residual.ensures.1 in
    subst (λ (n : ℕ). Rose n (g.O.Sink.faults c.step.new.frames)) c.loop-event.invariant.calm (c.in_err-step.ensures.fault (told_error _ _ _ _ refl (p.1 ∙ ap Err p.2) is))

pub returns-in_err-step-clause-last : goal.returns-in_err-step-clause-last
returns-in_err-step-clause-last g c = λ is.
    let p = err_from_is_err_and c.from_residual.result c.from_residual.ensures.1 in
    c.in_err-step.ensures.last (told_error _ _ _ _ refl (p.1 ∙ ap Err p.2) is)

pub returns-in_err-step-clause-calm : goal.returns-in_err-step-clause-calm
returns-in_err-step-clause-calm g c = λ none.
    let p = err_from_is_err_and c.from_residual.result c.from_residual.ensures.1 in
    c.in_err-step.ensures.calm (λ is. none (told_error _ _ _ _ (p.1 ∙ ap Err p.2) refl is)) ∙ c.loop-event.invariant.calm

-- the end of the events

pub returns-clause-keeps : goal.returns-clause-keeps
returns-clause-keeps g c = λ play ahead can keeps. (c.loop-event.invariant.run play ahead can keeps).keeps

pub returns-clause-ran : goal.returns-clause-ran
returns-clause-ran g c = λ play ahead can keeps.
    subst (λ (es : List Event). Ran play ahead es (core_of play c.args.self.now) (core_of play c.loop-event.self))
    (take_all c.loop-event.event-index c.args.events.now (omega arith)) (c.loop-event.invariant.run play ahead can keeps).ran

pub returns-clause-failed : goal.returns-clause-failed
returns-clause-failed g c = λ play ahead can keeps. tt

pub returns-clause-wrote : goal.returns-clause-wrote
returns-clause-wrote g c = λ play ahead can keeps. (c.loop-event.invariant.run play ahead can keeps).wrote

pub returns-clause-fault : goal.returns-clause-fault
returns-clause-fault g c = λ is. absurd (cc)

pub returns-clause-last : goal.returns-clause-last
returns-clause-last g c = λ is. absurd (cc)

pub returns-clause-calm : goal.returns-clause-calm
returns-clause-calm g c = λ none. c.loop-event.invariant.calm
