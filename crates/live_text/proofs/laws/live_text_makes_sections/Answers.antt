use Rattle.live_text.proofs.LivePlay.{makes_sections}
use Rattle.live_text.proofs.laws.live_text_makes_sections.Goals as goal

pub returns : goal.returns
returns c = makes_sections
