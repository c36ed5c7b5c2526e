use Rattle.std.proofs.Common.{sym, subst}
use Rattle.std.proofs.lemmas.Result.{err_from_is_err_and}
use Rattle.live_feed.specs.Feeds.{FeedState, Fed}
use Rattle.live_run.proofs.RunReads.{next_ok, next_err}
use Rattle.live_run.proofs.reading.Reading.next_given.Goals as goal

pub returns : goal.returns
returns c = λ text gs fed.
    let feed = subst (λ (f : FeedState). Fed text gs f) (sym c.self.view_is) fed in
    next_ok text gs c.next.new.self c.in_ok-next.field-0 (c.in_ok-next.ensures text gs feed)

pub returns-in_err-next : goal.returns-in_err-next
returns-in_err-next c = λ text gs fed.
    let feed = subst (λ (f : FeedState). Fed text gs f) (sym c.self.view_is) fed in
    let p = err_from_is_err_and c.from_residual.result c.from_residual.ensures.1 in
    rw (p.1, p.2) (next_err text gs c.next.new.self c.in_err-next.field-0.0 (c.in_err-next.ensures text gs feed))
