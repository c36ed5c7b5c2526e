use Rattle.std.proofs.Common.{ℕ, List, ◌∙◌, ap, subst}
use Rattle.std.specs.Io.KnownBytes.{append_known}
use Rattle.program_ends.specs.Told.{IsTold}
use Rattle.live_run.specs.Telling.{Tells}
use Rattle.live_run.proofs.RunReports.{told_on, told_to}
use Rattle.live_run.proofs.driving.tell.Goals as goal

pub returns-in-Ok-write_out-clause-told : goal.returns-in-Ok-write_out-clause-told
returns-in-Ok-write_out-clause-told g c = λ before faults told.
    let l = c.args.live.now in
    let m = c.tell.new.self in
    let text = c.tell.new.text.items in
    let mid = g.P.Sink.written c.args.report.now in
    let tells = subst (λ (t : List ℕ). Tells l.frames m.frames l.pipe m.pipe t text) c.new-text.ensures.items c.in-Ok.ensures.told in
    told_on before mid (g.P.Sink.written c.write_out.new.report) faults (g.P.Sink.faults c.args.report.now) (g.P.Sink.faults c.write_out.new.report) l m
    text told tells (c.in-Ok-write_out.ensures.whole ∙ ap (append_known mid) c.as_slice.ensures.value) c.in-Ok-write_out.ensures.calm

pub returns-clause-told : goal.returns-clause-told
returns-clause-told g c = λ before faults told.
    let l = c.args.live.now in
    let m = c.tell.new.self in
    let text = c.tell.new.text.items in
    let mid = g.P.Sink.written c.args.report.now in
    let new = g.P.Sink.written c.write_out.new.report in
    let then = g.P.Sink.faults c.args.report.now in
    let now = g.P.Sink.faults c.write_out.new.report in
    let tells = subst (λ (t : List ℕ). Tells l.frames m.frames l.pipe m.pipe t text) c.new-text.ensures.items c.in-Ok.ensures.told in
    told_to before mid new faults then now l m text told tells
    (subst (λ (t : List ℕ). IsTold mid new then now t) c.as_slice.ensures.value c.write_out.ensures.told) c.in-Err-write_out.ensures.fault
