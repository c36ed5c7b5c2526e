use Rattle.std.proofs.Common.{◌≢◌, Bool, [], Ok, IfErr, sym, ap, subst}
use Rattle.std.proofs.lemmas.Result.{err_from_is_err_and}
use Rattle.live_feed.specs.Feeds.{FeedState, Fed, HasNoFeed}
use Rattle.live_run.specs.declared.halt.Halt.TheVariants as halt
use Rattle.live_run.specs.Runs.{ReadsOn}
use Rattle.live_run.proofs.RunReads.{not_unread, not_read, not_end, no_end, answer_blames}
use Rattle.live_run.proofs.driving.read_on.Goals as goal

pub nothing-settled-requires : goal.nothing-settled-requires
nothing-settled-requires g c = (c.requires.0, c.requires.1)

pub returns-in_err-more-clause-halts : goal.returns-in_err-more-clause-halts
returns-in_err-more-clause-halts g c =
    let p = err_from_is_err_and c.from_residual.result c.from_residual.ensures.1 in
    rw (p.1, p.2) (λ left yet.
    not_unread left (g.S.LiveSource.left c.args.source.now) (g.S.LiveSource.left c.more.new.source) c.args.reading.now c.more.new.self yet
    c.in_err-more.field-0.0 (c.in_err-more.ensures.read left yet.text [] yet.taken yet.fed))

pub returns-in_err-end-clause-halts : goal.returns-in_err-end-clause-halts
returns-in_err-end-clause-halts g c =
    let p = err_from_is_err_and c.from_residual-in_err-end.result c.from_residual-in_err-end.ensures.1 in
    let left' = g.S.LiveSource.left c.more.new.source in
    let same = c.in_ok-more.ensures.unchanged (ap Ok c.if-not-more.true) in
    let none = subst (λ (f : FeedState). HasNoFeed f.rest) (sym same) c.requires.2 in
    rw (p.1, p.2) (λ left yet.
    let reads = subst (λ (b : Bool). ReadsOn left left' yet.text [] c.more.new.self (Ok b)) c.if-not-more.true
    (c.in_ok-more.ensures.read left yet.text [] yet.taken yet.fed) in
    not_end left (g.S.LiveSource.left c.args.source.now) left' c.args.reading.now c.more.new.self yet c.in_err-end.field-0.0 reads
    (c.in_err-end.ensures.ends yet.text [] reads.2 none))

pub returns-in_err-end-clause-blames : goal.returns-in_err-end-clause-blames
returns-in_err-end-clause-blames g c =
    let p = err_from_is_err_and c.from_residual-in_err-end.result c.from_residual-in_err-end.ensures.1 in
    let nay : IfErr c.from_residual-in_err-end.result (λ h. h ≢ halt.ReadFault) = rw (p.1, p.2) c.in_err-end.ensures.halts in
    answer_blames _ c.from_residual-in_err-end.result (g.S.LiveSource.faults c.args.source.now) (g.S.LiveSource.faults c.more.new.source) nay
    c.in_ok-more.ensures.blames

pub unreachable-requires : goal.unreachable-requires
unreachable-requires g c =
    let same = c.in_ok-more.ensures.unchanged (ap Ok c.if-not-more.true) in
    let none = subst (λ (f : FeedState). HasNoFeed f.rest) (sym same) c.requires.2 in
    let fed = subst (λ (f : FeedState). Fed c.requires.0 [] f) (sym same) c.requires.1 in
    no_end c.requires.0 c.in_ok-end.field-0 (c.in_ok-end.ensures.ends c.requires.0 [] fed none)

pub returns-clause-on : goal.returns-clause-on
returns-clause-on g c = λ left yet.
    let left' = g.S.LiveSource.left c.more.new.source in
    let reads = subst (λ (b : Bool). ReadsOn left left' yet.text [] c.more.new.self (Ok b)) c.if-not-more.false
    (c.in_ok-more.ensures.read left yet.text [] yet.taken yet.fed) in
    not_read left (g.S.LiveSource.left c.args.source.now) left' c.args.reading.now c.more.new.self yet reads
