use Rattle.play_check.proofs.Ends.{waiting}
use Rattle.play_check.proofs.laws.callers_that_wait_are_stuck.Goals as goal

pub returns : goal.returns
returns c = waiting
