use Rattle.program_ends.proofs.Left.{pipe_left_law}
use Rattle.program_ends.proofs.laws.what_a_pipe_leaves_is_part.Goals as goal

pub returns : goal.returns
returns c = pipe_left_law c.a_play_leaves_its_history.ensures
