use Rattle.std.proofs.Common.{◌∙◌, Option, Some, Ok, refl, sym, subst}
use Rattle.std.proofs.lemmas.Result.{err_from_is_err_and}
use Rattle.live_text.specs.declared.given.Given.{Given}
use Rattle.live_text.specs.LiveCommands.{LiveHeader}
use Rattle.live_feed.specs.Feeds.{IsGood, commands_of}
use Rattle.live_run.specs.Runs.{NextSo}
use Rattle.live_run.proofs.RunReports.{told_stays}
use Rattle.live_run.proofs.RunReads.{next_calm, has_more, has_none, has_halt, is_good}
use Rattle.live_run.proofs.RunSteps.{on_halt, on_given, on_failed, on_feed}
use Rattle.live_run.proofs.driving.give_all.Goals as goal

pub loop-init : goal.loop-init
loop-init g c = record { header = c.requires; runs = λ s left report faults on. on; shown = refl; blamed = λ before h. h }

pub returns-in_err-given-clause-header : goal.returns-in_err-given-clause-header
returns-in_err-given-clause-header g c =
    let h = c.loop.invariant.header in
    has_halt h.0 h.1 h.2 c.next_given.new.self c.in_err-given.field-0.0 h.4 (c.in_err-given.ensures h.0 h.1 h.3)

pub returns-in_err-given-clause-halts : goal.returns-in_err-given-clause-halts
returns-in_err-given-clause-halts g c =
    let h = c.loop.invariant.header in
    let p = err_from_is_err_and c.from_residual.result c.from_residual.ensures.1 in
    rw (p.1, p.2) (next_calm h.0 h.1 c.next_given.new.self c.in_err-given.field-0.0 (c.in_err-given.ensures h.0 h.1 h.3))

pub returns-in_err-given-clause-gives : goal.returns-in_err-given-clause-gives
returns-in_err-given-clause-gives g c = λ s left report faults on.
    let p = err_from_is_err_and c.from_residual.result c.from_residual.ensures.1 in
    let now = c.loop.invariant.runs s left report faults on in
    rw (p.1, p.2)
    (on_halt c.what_is_fed_is_spelled.ensures s left (g.O.Sink.written c.loop.frames) report faults c.loop.reading c.loop.live now c.next_given.new.self
    c.in_err-given.field-0.0 (c.in_err-given.ensures now.text now.gs now.fed))

pub give-requires-after_bounds : goal.give-requires-after_bounds
give-requires-after_bounds g c κs within =
    let h = c.loop.invariant.header in
    let next = subst (λ (o : Option Given). NextSo h.0 h.1 c.next_given.new.self (Ok o)) c.in-Some-2.is (c.in_ok-given.ensures h.0 h.1 h.3) in
    (h.2, is_good h.0 h.1 h.2 c.next_given.new.self c.in-Some-2.given h.4 next)

pub loop-preserved : goal.loop-preserved
loop-preserved g c =
    let h = c.loop.invariant.header in
    let given = c.in-Some-2.given in
    let next = subst (λ (o : Option Given). NextSo h.0 h.1 c.next_given.new.self (Ok o)) c.in-Some-2.is (c.in_ok-given.ensures h.0 h.1 h.3) in
    record {
      header = has_more h.0 h.1 h.2 c.next_given.new.self given h.4 next;
      runs = λ s left report faults on.
          let now = c.loop.invariant.runs s left report faults on in
          let next' = subst (λ (o : Option Given). NextSo now.text now.gs c.next_given.new.self (Ok o)) c.in-Some-2.is (c.in_ok-given.ensures now.text now.gs now.fed) in
          let good = subst (λ (o : Option LiveHeader). IsGood o given) now.header next'.1 in
          on_given c.what_is_fed_is_spelled.ensures s left (g.O.Sink.written c.loop.frames) report faults c.loop.reading c.loop.live now
          (g.O.Sink.written c.give.new.frames) c.next_given.new.self c.give.new.live given next'.0
          (c.in_ok-give-in-Some-2.ensures.plays now.h (commands_of now.gs) s.setup.ahead s.setup.probe s.frames good now.plays)
          (told_stays s.report report s.faults faults c.loop.live c.give.new.live c.give.ensures.log c.give.ensures.frames now.told);
      shown = c.give.ensures.frames ∙ c.loop.invariant.shown;
      blamed = λ before b. c.give.ensures.blamed before (c.loop.invariant.blamed before b);
    }

pub returns-in_err-give-in-Some-2-clause-header : goal.returns-in_err-give-in-Some-2-clause-header
returns-in_err-give-in-Some-2-clause-header g c =
    let h = c.loop.invariant.header in
    let next = subst (λ (o : Option Given). NextSo h.0 h.1 c.next_given.new.self (Ok o)) c.in-Some-2.is (c.in_ok-given.ensures h.0 h.1 h.3) in
    has_more h.0 h.1 h.2 c.next_given.new.self c.in-Some-2.given h.4 next

pub returns-in_err-give-in-Some-2-clause-gives : goal.returns-in_err-give-in-Some-2-clause-gives
returns-in_err-give-in-Some-2-clause-gives g c = λ s left report faults on.
    let given = c.in-Some-2.given in
    let p = err_from_is_err_and c.from_residual-in_err-give-in-Some-2.result c.from_residual-in_err-give-in-Some-2.ensures.1 in
    let now = c.loop.invariant.runs s left report faults on in
    let next = subst (λ (o : Option Given). NextSo now.text now.gs c.next_given.new.self (Ok o)) c.in-Some-2.is (c.in_ok-given.ensures now.text now.gs now.fed) in
    let good = subst (λ (o : Option LiveHeader). IsGood o given) now.header next.1 in
    rw (p.1, p.2, c.in_err-give-in-Some-2.ensures.halts)
    ((
      on_failed c.what_is_fed_is_spelled.ensures s left (g.O.Sink.written c.loop.frames) report faults c.loop.reading c.loop.live now
          (g.O.Sink.written c.give.new.frames) c.give.new.live
          (c.in_err-give-in-Some-2.ensures.failed now.h (commands_of now.gs) s.setup.ahead s.setup.probe s.frames good now.plays),
      told_stays s.report report s.faults faults c.loop.live c.give.new.live c.give.ensures.log c.give.ensures.frames now.told,
    ))

pub returns-in-None-2-clause-header : goal.returns-in-None-2-clause-header
returns-in-None-2-clause-header g c =
    let h = c.loop.invariant.header in
    let next = subst (λ (o : Option Given). NextSo h.0 h.1 c.next_given.new.self (Ok o)) c.in-None-2.is (c.in_ok-given.ensures h.0 h.1 h.3) in
    has_none h.0 h.1 h.2 c.next_given.new.self h.4 next

pub returns-in-None-2-clause-gives : goal.returns-in-None-2-clause-gives
returns-in-None-2-clause-gives g c = λ s left report faults on.
    let now = c.loop.invariant.runs s left report faults on in
    let next = subst (λ (o : Option Given). NextSo now.text now.gs c.next_given.new.self (Ok o)) c.in-None-2.is (c.in_ok-given.ensures now.text now.gs now.fed) in (
      on_feed c.what_is_fed_is_spelled.ensures s left (g.O.Sink.written c.loop.frames) report faults c.loop.reading c.loop.live now c.next_given.new.self next.0,
      next.1,
    )
