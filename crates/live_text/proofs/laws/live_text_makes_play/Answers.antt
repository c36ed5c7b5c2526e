use Rattle.live_text.proofs.LivePlay.{makes_play}
use Rattle.live_text.proofs.laws.live_text_makes_play.Goals as goal

pub returns : goal.returns
returns c = makes_play
