use Rattle.pf_history.proofs.Turns.{seat_law}
use Rattle.pf_history.proofs.laws.turns_of_a_seat_are_the_callers.Goals as goal

pub returns : goal.returns
returns c = seat_law
