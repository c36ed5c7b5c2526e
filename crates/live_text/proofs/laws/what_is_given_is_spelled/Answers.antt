use Rattle.live_text.proofs.GivenText.{given_spelled}
use Rattle.live_text.proofs.laws.what_is_given_is_spelled.Goals as goal

pub returns : goal.returns
returns c = given_spelled
