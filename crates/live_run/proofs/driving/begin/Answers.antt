use Rattle.std.proofs.Common.{◌≡◌, ◌≢◌, ◌∙◌, ℕ, List, [], Option, Ok, IfErr, refl, sym, subst}
use Rattle.std.proofs.lemmas.Result.{err_from_is_err_and}
use Rattle.live_text.specs.declared.given.Given.{Given}
use Rattle.live_run.specs.declared.halt.Halt.TheVariants as halt
use Rattle.live_run.specs.Runs.{Start, NextSo, NotYet}
use Rattle.live_run.proofs.RunTexts.{takes_none}
use Rattle.live_run.proofs.RunReads.{next_calm, not_halt, first_is_header, opened_on, opens_header, answer_blames, broken_blames, ok_map, err_map, on_ok, broken_not}
use Rattle.live_run.proofs.driving.begin.Goals as goal

pub loop-init : goal.loop-init
loop-init g c =
    record {
      yet = record { text = []; taken = takes_none (g.S.LiveSource.left c.args.source.now); fed = c.requires.fresh };
      calm = refl;
    }

pub returns-in_err-given-clause-halts : goal.returns-in_err-given-clause-halts
returns-in_err-given-clause-halts g c =
    let yet = c.loop.invariant.yet in
    let p = err_from_is_err_and c.from_residual.result c.from_residual.ensures.1 in
    rw (p.1, p.2)
    (not_halt (g.S.LiveSource.left c.args.source.now) (g.S.LiveSource.left c.loop.source) c.loop.reading c.next_given.new.self yet
    c.in_err-given.field-0.0 (c.in_err-given.ensures yet.text [] yet.fed))

pub returns-in_err-given-clause-blames : goal.returns-in_err-given-clause-blames
returns-in_err-given-clause-blames g c =
    let yet = c.loop.invariant.yet in
    let p = err_from_is_err_and c.from_residual.result c.from_residual.ensures.1 in
    let nay : IfErr c.from_residual.result (λ h. h ≢ halt.ReadFault) =
    rw (p.1, p.2) (next_calm yet.text [] c.next_given.new.self c.in_err-given.field-0.0 (c.in_err-given.ensures yet.text [] yet.fed)) in
    answer_blames _ c.from_residual.result (g.S.LiveSource.faults c.args.source.now) (g.S.LiveSource.faults c.loop.source) nay c.loop.invariant.calm

pub open-requires-clause-header : goal.open-requires-clause-header
open-requires-clause-header g c κs within =
    let yet = c.loop.invariant.yet in
    let next = subst (λ (o : Option Given). NextSo yet.text [] c.next_given.new.self (Ok o)) c.in-Some-2.is (c.in_ok-given.ensures yet.text [] yet.fed) in
    first_is_header yet.text c.next_given.new.self c.in-Some-2.given next

pub returns-in-Some-2-clause-begun : goal.returns-in-Some-2-clause-begun
returns-in-Some-2-clause-begun g c =
    let yet = c.loop.invariant.yet in
    let next = subst (λ (o : Option Given). NextSo yet.text [] c.next_given.new.self (Ok o)) c.in-Some-2.is (c.in_ok-given.ensures yet.text [] yet.fed) in
    ok_map c.open.result _ _ (λ l opened. λ frames report faults.
    let s : Start = record { setup = c.args.setup.now; left = g.S.LiveSource.left c.args.source.now; frames = frames; report = report; faults = faults } in
    opened_on s (g.S.LiveSource.left c.loop.source) yet.text c.next_given.new.self l yet.taken
    (opened yet.text c.next_given.new.self next.0 frames report faults)) c.open.ensures.opened

pub returns-in-Some-2-clause-header : goal.returns-in-Some-2-clause-header
returns-in-Some-2-clause-header g c =
    let yet = c.loop.invariant.yet in
    let next = subst (λ (o : Option Given). NextSo yet.text [] c.next_given.new.self (Ok o)) c.in-Some-2.is (c.in_ok-given.ensures yet.text [] yet.fed) in
    on_ok c.open.result _ (opens_header yet.text c.next_given.new.self c.in-Some-2.given next.1 next.0)

pub returns-in-Some-2-clause-halts : goal.returns-in-Some-2-clause-halts
returns-in-Some-2-clause-halts g c =
    let yet = c.loop.invariant.yet in
    err_map c.open.result _ _
    (λ h is. broken_not (g.S.LiveSource.left c.args.source.now) (g.S.LiveSource.left c.loop.source) yet.text h yet.taken is) c.open.ensures.halts

pub returns-in-Some-2-clause-blames : goal.returns-in-Some-2-clause-blames
returns-in-Some-2-clause-blames g c =
    broken_blames _ c.open.result (g.S.LiveSource.faults c.args.source.now) (g.S.LiveSource.faults c.loop.source) c.open.ensures.halts c.loop.invariant.calm

pub read_on-requires : goal.read_on-requires
read_on-requires g c =
    let yet = c.loop.invariant.yet in
    let next = subst (λ (o : Option Given). NextSo yet.text [] c.next_given.new.self (Ok o)) c.in-None-2.is (c.in_ok-given.ensures yet.text [] yet.fed) in
    (yet.text, next.0, next.1)

pub returns-in_err-read_on-in-None-2-clause-halts : goal.returns-in_err-read_on-in-None-2-clause-halts
returns-in_err-read_on-in-None-2-clause-halts g c =
    let yet = c.loop.invariant.yet in
    let next = subst (λ (o : Option Given). NextSo yet.text [] c.next_given.new.self (Ok o)) c.in-None-2.is (c.in_ok-given.ensures yet.text [] yet.fed) in
    let now : NotYet (g.S.LiveSource.left c.args.source.now) (g.S.LiveSource.left c.loop.source) c.next_given.new.self =
    record { text = yet.text; taken = yet.taken; fed = next.0 } in
    let p = err_from_is_err_and c.from_residual-in_err-read_on-in-None-2.result c.from_residual-in_err-read_on-in-None-2.ensures.1 in
    rw (p.1, p.2) (c.in_err-read_on-in-None-2.ensures.halts (g.S.LiveSource.left c.args.source.now) now)

pub loop-preserved : goal.loop-preserved
loop-preserved g c =
    let yet = c.loop.invariant.yet in
    let next = subst (λ (o : Option Given). NextSo yet.text [] c.next_given.new.self (Ok o)) c.in-None-2.is (c.in_ok-given.ensures yet.text [] yet.fed) in
    let now : NotYet (g.S.LiveSource.left c.args.source.now) (g.S.LiveSource.left c.loop.source) c.next_given.new.self =
    record { text = yet.text; taken = yet.taken; fed = next.0 } in
    record {
      yet = c.in_ok-read_on-in-None-2.ensures.on (g.S.LiveSource.left c.args.source.now) now;
      calm = c.in_ok-read_on-in-None-2.ensures.blames ∙ c.loop.invariant.calm;
    }
