use Rattle.std.proofs.Common.{◌∙◌, Bool, Ok, refl, sym, ap, subst}
use Rattle.std.specs.Io.KnownBytes.{prepend_known}
use Rattle.std.proofs.lemmas.Result.{err_from_is_err_and}
use Rattle.live_feed.specs.Feeds.{FeedState, HasNoFeed}
use Rattle.live_run.specs.Runs.{ReadsOn}
use Rattle.live_run.proofs.RunReads.{has_read, answer_blames}
use Rattle.live_run.proofs.RunSteps.{on_read, on_unread, unread_told, on_end, end_told}
use Rattle.live_run.proofs.driving.drive.Goals as goal

pub loop-init : goal.loop-init
loop-init g c = record { header = c.requires; runs = λ s on. on; calm = refl; blamed = λ before h. h }

pub returns-in_err-settled-clause-told : goal.returns-in_err-settled-clause-told
returns-in_err-settled-clause-told g c = λ s on.
    let p = err_from_is_err_and c.from_residual.result c.from_residual.ensures.1 in
    rw (p.1, p.2) (c.in_err-settled.ensures.turns s (g.S.LiveSource.left c.loop.source) (c.loop.invariant.runs s on)).1

pub returns-in_err-more-clause-made : goal.returns-in_err-more-clause-made
returns-in_err-more-clause-made g c = λ s on.
    let p = err_from_is_err_and c.from_residual-in_err-more.result c.from_residual-in_err-more.ensures.1 in
    let left = g.S.LiveSource.left c.loop.source in
    let turned = c.in_ok-settled.ensures.turns s left (c.loop.invariant.runs s on) in
    let reads = c.in_err-more.ensures.read s.left turned.0.text turned.0.gs turned.0.taken turned.0.fed in
    rw (p.1, p.2)
    (on_unread c.what_is_fed_is_spelled.ensures s left (g.O.Sink.written c.turn.new.frames) (g.P.Sink.written c.turn.new.report)
    (g.P.Sink.faults c.turn.new.report) c.turn.new.reading c.turn.new.live turned.0 (g.S.LiveSource.left c.more.new.source) c.more.new.self
    c.in_err-more.field-0.0 reads)

pub returns-in_err-more-clause-told : goal.returns-in_err-more-clause-told
returns-in_err-more-clause-told g c = λ s on.
    let p = err_from_is_err_and c.from_residual-in_err-more.result c.from_residual-in_err-more.ensures.1 in
    let left = g.S.LiveSource.left c.loop.source in
    let turned = c.in_ok-settled.ensures.turns s left (c.loop.invariant.runs s on) in
    let reads = c.in_err-more.ensures.read s.left turned.0.text turned.0.gs turned.0.taken turned.0.fed in
    rw (p.1, p.2)
    (unread_told c.what_is_fed_is_spelled.ensures s left (g.O.Sink.written c.turn.new.frames) (g.P.Sink.written c.turn.new.report)
    (g.P.Sink.faults c.turn.new.report) c.turn.new.reading c.turn.new.live turned.0 (g.S.LiveSource.left c.more.new.source) c.more.new.self
    c.in_err-more.field-0.0 reads)

pub returns-then-not-more-clause-made : goal.returns-then-not-more-clause-made
returns-then-not-more-clause-made g c = λ s on.
    let left = g.S.LiveSource.left c.loop.source in
    let left' = g.S.LiveSource.left c.more.new.source in
    let turned = c.in_ok-settled.ensures.turns s left (c.loop.invariant.runs s on) in
    let same = c.in_ok-more.ensures.unchanged (ap Ok c.if-not-more.true) in
    let reads = subst (λ (b : Bool). ReadsOn s.left left' turned.0.text turned.0.gs c.more.new.self (Ok b)) c.if-not-more.true
    (c.in_ok-more.ensures.read s.left turned.0.text turned.0.gs turned.0.taken turned.0.fed) in
    let ends = c.end.ensures.ends turned.0.text turned.0.gs reads.2 (subst (λ (f : FeedState). HasNoFeed f.rest) (sym same) turned.1) in
    on_end c.what_is_fed_is_spelled.ensures s left (g.O.Sink.written c.turn.new.frames) (g.P.Sink.written c.turn.new.report)
    (g.P.Sink.faults c.turn.new.report) c.turn.new.reading c.turn.new.live turned.0 left' c.more.new.self c.end.result reads ends

pub returns-then-not-more-clause-told : goal.returns-then-not-more-clause-told
returns-then-not-more-clause-told g c = λ s on.
    let left = g.S.LiveSource.left c.loop.source in
    let left' = g.S.LiveSource.left c.more.new.source in
    let turned = c.in_ok-settled.ensures.turns s left (c.loop.invariant.runs s on) in
    let same = c.in_ok-more.ensures.unchanged (ap Ok c.if-not-more.true) in
    let reads = subst (λ (b : Bool). ReadsOn s.left left' turned.0.text turned.0.gs c.more.new.self (Ok b)) c.if-not-more.true
    (c.in_ok-more.ensures.read s.left turned.0.text turned.0.gs turned.0.taken turned.0.fed) in
    let ends = c.end.ensures.ends turned.0.text turned.0.gs reads.2 (subst (λ (f : FeedState). HasNoFeed f.rest) (sym same) turned.1) in
    end_told c.what_is_fed_is_spelled.ensures s left (g.O.Sink.written c.turn.new.frames) (g.P.Sink.written c.turn.new.report)
    (g.P.Sink.faults c.turn.new.report) c.turn.new.reading c.turn.new.live turned.0 c.end.result ends

pub returns-then-not-more-clause-blames : goal.returns-then-not-more-clause-blames
returns-then-not-more-clause-blames g c =
    answer_blames _ c.end.result (g.S.LiveSource.faults c.args.source.now) (g.S.LiveSource.faults c.more.new.source) c.end.ensures.halts
    (c.in_ok-more.ensures.blames ∙ c.loop.invariant.calm)

pub loop-preserved : goal.loop-preserved
loop-preserved g c =
    let left = g.S.LiveSource.left c.loop.source in
    record {
      header = has_read left (g.S.LiveSource.left c.more.new.source) c.turn.new.reading c.more.new.self c.in_ok-more.more c.turn.ensures.header
          (λ text gs fed. c.in_ok-more.ensures.read (prepend_known text left) text gs refl fed);
      runs = λ s on.
          let turned = c.in_ok-settled.ensures.turns s left (c.loop.invariant.runs s on) in
          let reads = subst (λ (b : Bool). ReadsOn s.left (g.S.LiveSource.left c.more.new.source) turned.0.text turned.0.gs c.more.new.self (Ok b)) c.if-not-more.false
          (c.in_ok-more.ensures.read s.left turned.0.text turned.0.gs turned.0.taken turned.0.fed) in
          on_read c.what_is_fed_is_spelled.ensures s left (g.O.Sink.written c.turn.new.frames) (g.P.Sink.written c.turn.new.report)
          (g.P.Sink.faults c.turn.new.report) c.turn.new.reading c.turn.new.live turned.0 (g.S.LiveSource.left c.more.new.source) c.more.new.self reads;
      calm = c.in_ok-more.ensures.blames ∙ c.loop.invariant.calm;
      blamed = λ before b. c.turn.ensures.blamed before (c.loop.invariant.blamed before b);
    }
