use Rattle.play_check.proofs.Histories.{history}
use Rattle.play_check.proofs.laws.histories_are_orders.Goals as goal

pub returns : goal.returns
returns c = history
