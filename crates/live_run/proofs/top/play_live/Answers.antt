use Rattle.std.proofs.Common.{◌∙◌, ℕ, [], ap, subst}
use Rattle.pf_history.specs.Logs.{Recorded}
use Rattle.program_ends.specs.declared.stop.Stop.{Stop}
use Rattle.program_ends.specs.Statuses.{status_of, refusal_of}
use Rattle.program_ends.specs.Messages.{message_of}
use Rattle.program_ends.specs.Told.{IsTold}
use Rattle.live_run.specs.declared.halt.Halt.TheVariants as halt
use Rattle.live_run.specs.Runs.{Start, ReadBlames}
use Rattle.live_run.proofs.RunTexts.{takes_none}
use Rattle.live_run.proofs.RunEnds.{made_some}
use Rattle.live_run.proofs.RunStarts.{not_begun, closed_reads}
use Rattle.live_run.proofs.top.play_live.Goals as goal

pub returns-in_default-clause-ends : goal.returns-in_default-clause-ends
returns-in_default-clause-ends g c =
    let s : Start = record {
      setup = c.args.setup.now;
      left = g.S.LiveSource.left c.args.input.now;
      frames = g.O.Sink.written c.args.frames.now;
      report = g.P.Sink.written c.args.report.now;
      faults = g.P.Sink.faults c.args.report.now;
    } in
    not_begun s s.left halt.Broken c.stopped.result.status c.stopped.result.refusal c.stopped.result.history.entries
    (g.P.Sink.written c.stopped.new.report) (g.P.Sink.faults c.stopped.new.report) ([], takes_none s.left) c.stopped.ensures.status c.stopped.ensures.refusal
    (ap (λ (h : Recorded). h.entries) c.stopped.ensures.history ∙ c.new-in_default.ensures.entries) c.stopped.ensures.told

pub returns-in-Err-clause-ends : goal.returns-in-Err-clause-ends
returns-in-Err-clause-ends g c =
    let s : Start = record {
      setup = c.args.setup.now;
      left = g.S.LiveSource.left c.args.input.now;
      frames = g.O.Sink.written c.args.frames.now;
      report = g.P.Sink.written c.args.report.now;
      faults = g.P.Sink.faults c.args.report.now;
    } in
    let report' = g.P.Sink.written c.stopped-in-Err.new.report in
    let faults' = g.P.Sink.faults c.stopped-in-Err.new.report in
    not_begun s (g.S.LiveSource.left c.begin.new.source) c.in-Err.halt c.stopped-in-Err.result.status c.stopped-in-Err.result.refusal c.stopped-in-Err.result.history.entries
    report' faults' c.in-Err.ensures.halts (c.stopped-in-Err.ensures.status ∙ ap status_of c.stop_of.ensures) (c.stopped-in-Err.ensures.refusal ∙ ap refusal_of c.stop_of.ensures)
    (ap (λ (h : Recorded). h.entries) c.stopped-in-Err.ensures.history ∙ c.new-in-Err.ensures.entries)
    (subst (λ (w : Stop). IsTold s.report report' s.faults faults' (message_of w)) c.stop_of.ensures c.stopped-in-Err.ensures.told)

pub returns-clause-ends : goal.returns-clause-ends
returns-clause-ends g c =
    let s : Start = record {
      setup = c.args.setup.now;
      left = g.S.LiveSource.left c.args.input.now;
      frames = g.O.Sink.written c.args.frames.now;
      report = g.P.Sink.written c.args.report.now;
      faults = g.P.Sink.faults c.args.report.now;
    } in
    let on = c.in-Ok-begin.ensures.begun s.frames s.report s.faults in
    c.close.ensures.ends s (g.S.LiveSource.left c.drive-came.new.source) (c.drive-came.ensures.made s on) (c.drive-came.ensures.told s on)

pub returns-clause-reads : goal.returns-clause-reads
returns-clause-reads g c =
    let now = g.S.LiveSource.faults c.drive-came.new.source in
    closed_reads c.close.result.status (g.S.LiveSource.faults c.args.input.now) now c.drive-came.result c.close.ensures.unread c.close.ensures.read
    (subst (λ (n : ℕ). ReadBlames c.drive-came.result n now) c.in-Ok-begin.ensures.blames c.drive-came.ensures.blames)

pub returns-clause-part_read : goal.returns-clause-part_read
returns-clause-part_read g c =
    let s : Start = record {
      setup = c.args.setup.now;
      left = g.S.LiveSource.left c.args.input.now;
      frames = g.O.Sink.written c.args.frames.now;
      report = g.P.Sink.written c.args.report.now;
      faults = g.P.Sink.faults c.args.report.now;
    } in
    let on = c.in-Ok-begin.ensures.begun s.frames s.report s.faults in
    let some = made_some s (g.S.LiveSource.left c.drive-came.new.source) (g.O.Sink.written c.drive-came.new.frames) c.drive-came.new.live c.drive-came.result
    (c.drive-came.ensures.made s on) in
    (some.text, some.taken)
