use Rattle.std.proofs.Common.{◌≡◌, ◌∙◌, ℕ, true, false, List, Option, inl, inr, refl, sym, ap, subst}
use Rattle.std.specs.Prelude.{Result}
use Rattle.draw_list.specs.declared.stats.Stats.{Stats}
use Rattle.program_ends.specs.declared.stop.Stop.{Stop}
use Rattle.live_run.specs.declared.halt.Halt.{Halt}
use Rattle.live_run.specs.Closing.{end_at, is_quiet, Says, TellsRest}
use Rattle.live_run.proofs.RunEnds.{Leaving, ends_live, first_told, made_some, tells_of}
use Rattle.live_run.proofs.RunStatus.{EndFacts, facts_of, status_blames}
use Rattle.live_run.proofs.ending.close.Goals as goal

pub returns-clause-ends : goal.returns-clause-ends
returns-clause-ends g c = λ s left made at.
    let law = c.what_is_left_is_part.ensures in
    let l = c.args.live in
    let came = c.args.came in
    let closed = c.close-closed.result in
    let told = c.tell_unless-told.result in
    let frames = g.O.Sink.written c.args.frames.now in
    let frames' = g.O.Sink.written c.close-closed.new.frames in
    let mid = g.P.Sink.written c.args.report.now in
    let report' = g.P.Sink.written c.tell_unless-told.new.report in
    let report'' = g.P.Sink.written c.ended.new.report in
    let then = g.P.Sink.faults c.args.report.now in
    let faults' = g.P.Sink.faults c.tell_unless-told.new.report in
    let faults'' = g.P.Sink.faults c.ended.new.report in
    let log = closed.played.history.entries in
    let leaving : Leaving s frames frames' l closed.played = λ play driven. c.close-closed.ensures.left play s.setup.ahead s.setup.probe s.frames driven in
    let first = first_told law s left frames frames' l closed.played (made_some s left frames l came made) leaving in
    let rest : is_quiet came ≡ false → TellsRest l.frames l.pipe.told log closed.played.stats.items mid report' then faults' told = λ loud.
    subst (λ (n : ℕ). TellsRest n l.pipe.told log closed.played.stats.items mid report' then faults' told) c.close-closed.ensures.frames
    (subst (λ (n : ℕ). TellsRest closed.frames n log closed.played.stats.items mid report' then faults' told) c.close-closed.ensures.told
    (c.tell_unless-told.ensures.rest loud)) in
    let none : is_quiet came ≡ true → (told ≡ came) × (report' ≡ mid) × (faults' ≡ then) = λ quiet. (c.tell_unless-told.ensures.same quiet, ap g.P.Sink.written (c.tell_unless-told.ensures.none quiet), ap g.P.Sink.faults (c.tell_unless-told.ensures.none quiet)) in
    let tells = tells_of s.report mid report' s.faults then faults' l.pipe.told l log closed.played.stats.items came told at rest none first in
    let says = subst (λ (p : ℕ × Option Stop). Says p.0 p.1 c.ended.result.status c.ended.result.refusal report' report'' faults' faults'')
    (sym c.end_at-end.ensures) c.ended.ensures.says in
    rw c.ended.ensures.history
    (ends_live law s left frames frames' report' report'' faults' faults'' l closed.played c.ended.result.status c.ended.result.refusal leaving
    closed.played.end refl came told made (λ e. c.tell_unless-told.ensures.same (ap is_quiet e) ∙ e) tells says)

pub returns-clause-blames : goal.returns-clause-blames
returns-clause-blames g c = λ before h.
    let came = c.args.came in
    let e = c.close-closed.result.played.end in
    let told = c.tell_unless-told.result in
    let mid = g.P.Sink.written c.tell_unless-told.new.report in
    let new = g.P.Sink.written c.ended.new.report in
    let then = g.P.Sink.faults c.tell_unless-told.new.report in
    let now = g.P.Sink.faults c.ended.new.report in
    let status = c.ended.result.status in
    let refusal = c.ended.result.refusal in
    let says = subst (λ (p : ℕ × Option Stop). Says p.0 p.1 status refusal mid new then now) (sym c.end_at-end.ensures) c.ended.ensures.says in
    status_blames e came told (end_at e came told).1 status refusal before (g.O.Sink.faults c.close-closed.new.frames)
    (g.O.Sink.at_fault c.close-closed.new.frames) (g.O.Sink.written c.close-closed.new.frames)
    (facts_of status refusal mid new then now e came told says) (c.close-closed.ensures.blames before h)
