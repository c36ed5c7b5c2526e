use Rattle.stage_parts.proofs.SeatSteps.{seat_frames_law}
use Rattle.stage_parts.proofs.laws.frames_of_a_seat_go_on.Goals as goal

pub returns : goal.returns
returns c = seat_frames_law
