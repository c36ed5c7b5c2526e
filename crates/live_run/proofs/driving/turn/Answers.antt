use Rattle.std.proofs.Common.{Result, subst}
use Rattle.std.proofs.lemmas.Result.{err_from_is_err_and}
use Rattle.live_run.specs.declared.halt.Halt.{Halt}
use Rattle.live_run.specs.Runs.{TurnsTo}
use Rattle.live_run.proofs.RunSteps.{Settles, turn_broken, turn_settled}
use Rattle.live_run.proofs.driving.turn.Goals as goal

pub returns-in_err-settled-clause-turns : goal.returns-in_err-settled-clause-turns
returns-in_err-settled-clause-turns g c = λ s left on.
    let p = err_from_is_err_and c.from_residual.result c.from_residual.ensures.1 in
    let report = g.P.Sink.written c.args.report.now in
    let faults = g.P.Sink.faults c.args.report.now in
    let l = c.give_all-given.new.live in
    let m = c.settle.new.live in
    let frames = g.O.Sink.written c.give_all-given.new.frames in
    let frames' = g.O.Sink.written c.settle.new.frames in
    let settles : Settles s.setup.ahead s.setup.probe s.frames frames frames' l m = λ play h. c.settle.ensures.driven play s.setup.ahead s.setup.probe s.frames h in
    rw (p.1, p.2)
    (turn_broken c.what_is_fed_is_spelled.ensures s left frames frames' report (g.P.Sink.written c.settle.new.report) faults
    (g.P.Sink.faults c.settle.new.report) c.give_all-given.new.reading l m c.give_all-given.result c.in_err-settled.field-0.0
    (c.give_all-given.ensures.gives s left report faults on) settles (λ told. c.in_err-settled.ensures.told s.report s.faults told)
    c.in_err-settled.ensures.halts)

pub returns-in_err-given-clause-turns : goal.returns-in_err-given-clause-turns
returns-in_err-given-clause-turns g c = λ s left on.
    let p = err_from_is_err_and c.from_residual-in_err-given.result c.from_residual-in_err-given.ensures.1 in
    let report = g.P.Sink.written c.args.report.now in
    let faults = g.P.Sink.faults c.args.report.now in
    let l = c.give_all-given.new.live in
    let m = c.settle.new.live in
    let frames = g.O.Sink.written c.give_all-given.new.frames in
    let frames' = g.O.Sink.written c.settle.new.frames in
    let settles : Settles s.setup.ahead s.setup.probe s.frames frames frames' l m = λ play h. c.settle.ensures.driven play s.setup.ahead s.setup.probe s.frames h in
    let all = turn_settled c.what_is_fed_is_spelled.ensures s left frames frames' report (g.P.Sink.written c.settle.new.report) faults
    (g.P.Sink.faults c.settle.new.report) c.give_all-given.new.reading l m c.give_all-given.result
    (c.give_all-given.ensures.gives s left report faults on) settles c.settle.ensures.blocks (λ told. c.in_ok-settled.ensures.told s.report s.faults told) in
    rw (p.1, p.2)
    (subst (λ (r : Result Unit Halt). TurnsTo s left frames' (g.P.Sink.written c.settle.new.report) (g.P.Sink.faults c.settle.new.report) c.give_all-given.new.reading r m)
    c.in_err-given.was all)

pub returns-clause-turns : goal.returns-clause-turns
returns-clause-turns g c = λ s left on.
    let report = g.P.Sink.written c.args.report.now in
    let faults = g.P.Sink.faults c.args.report.now in
    let l = c.give_all-given.new.live in
    let m = c.settle.new.live in
    let frames = g.O.Sink.written c.give_all-given.new.frames in
    let frames' = g.O.Sink.written c.settle.new.frames in
    let settles : Settles s.setup.ahead s.setup.probe s.frames frames frames' l m = λ play h. c.settle.ensures.driven play s.setup.ahead s.setup.probe s.frames h in
    let all = turn_settled c.what_is_fed_is_spelled.ensures s left frames frames' report (g.P.Sink.written c.settle.new.report) faults
    (g.P.Sink.faults c.settle.new.report) c.give_all-given.new.reading l m c.give_all-given.result
    (c.give_all-given.ensures.gives s left report faults on) settles c.settle.ensures.blocks (λ told. c.in_ok-settled.ensures.told s.report s.faults told) in
    subst (λ (r : Result Unit Halt). TurnsTo s left frames' (g.P.Sink.written c.settle.new.report) (g.P.Sink.faults c.settle.new.report) c.give_all-given.new.reading r m)
    c.in_ok-given.was all
