use Rattle.live_feed.proofs.Feeding.{ends_so}
use Rattle.live_feed.proofs.feed.LiveFeed.end.Goals as goal

pub returns : goal.returns
returns c = λ text gs h clear. ends_so text gs c.args.self.now c.ending.result c.ending.ensures h clear
