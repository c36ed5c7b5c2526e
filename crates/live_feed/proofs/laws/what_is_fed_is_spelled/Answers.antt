use Rattle.live_feed.proofs.Given.{fed_spelled}
use Rattle.live_feed.proofs.laws.what_is_fed_is_spelled.Goals as goal

pub returns : goal.returns
returns c = fed_spelled
