use Rattle.std.proofs.Common.{ℕ, List, length}
use Rattle.live_text.specs.declared.given.Given.{Given}
use Rattle.live_feed.specs.Feeds.{Fed}
use Rattle.live_feed.proofs.feed.LiveFeed.next.Given as goal

abbrev pub invariant-loop-len : goal.invariant-loop-len
invariant-loop-len l = (text : List ℕ) (gs : List Given) → Fed text gs l.fn.self → Fed text gs l.self

abbrev pub decreases-loop-len : goal.decreases-loop-len
decreases-loop-len l = length l.self.rest
