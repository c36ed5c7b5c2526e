use Rattle.std.proofs.Common.{sym, refl, []}
use Rattle.live_feed.proofs.feed.LiveFeed.new.Goals as goal

pub returns : goal.returns
returns c = record { lines = []; found = []; whole = sym c.new-2.ensures.items; cut = tt; read = sym c.new.ensures; gave = refl }
