use Rattle.std.proofs.Common.{◌≡◌, rules, true, subst}
use Rattle.std.specs.Prelude.{is_err}
use Rattle.pf_io.specs.Causes.{Rose}
use Rattle.program_ends.proofs.Telling.{told_front, at_error}
use Rattle.program_ends.proofs.messages.say.Goals as goal

pub returns-then-is_err : goal.returns-then-is_err
returns-then-is_err g c =
    let failed : is_err c.write_all.result ≡ true = search rules in
    let rose = at_error c.write_all.result failed c.write_all.ensures.cause.failed in
    let front = at_error c.write_all.result failed c.write_all.ensures.front in
    told_front (g.R.Sink.written c.args.report.now) (g.R.Sink.written c.loop-piece.report) (g.R.Sink.written c.write_all.new.sink) (g.R.Sink.faults c.args.report.now) (g.R.Sink.faults c.write_all.new.sink) c.args.pieces.now c.loop-piece.piece-index _ c.loop-piece-test.true c.loop-piece.invariant.0 front (subst (λ n. Rose n (g.R.Sink.faults c.write_all.new.sink)) c.loop-piece.invariant.1 rose)
