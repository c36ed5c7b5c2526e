use Rattle.std.proofs.Common.{sym, subst}
use Rattle.live_feed.specs.Feeds.{FeedState, Fed, HasNoFeed}
use Rattle.live_run.proofs.reading.Reading.end.Goals as goal

pub returns-in-Ok-clause-ends : goal.returns-in-Ok-clause-ends
returns-in-Ok-clause-ends c = λ text gs fed none.
    c.in-Ok.ensures text gs (subst (λ (f : FeedState). Fed text gs f) (sym c.self.view_is) fed)
    (subst (λ (f : FeedState). HasNoFeed f.rest) (sym c.self.view_is) none)

pub returns-in-Err-clause-ends : goal.returns-in-Err-clause-ends
returns-in-Err-clause-ends c = λ text gs fed none.
    c.in-Err.ensures text gs (subst (λ (f : FeedState). Fed text gs f) (sym c.self.view_is) fed)
    (subst (λ (f : FeedState). HasNoFeed f.rest) (sym c.self.view_is) none)
