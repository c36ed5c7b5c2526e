use Rattle.pf_history.proofs.Turns.{frames_law}
use Rattle.pf_history.proofs.laws.frames_are_turns_of_the_application.Goals as goal

pub returns : goal.returns
returns c = frames_law
