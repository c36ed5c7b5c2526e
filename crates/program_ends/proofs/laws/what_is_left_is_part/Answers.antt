use Rattle.program_ends.proofs.Left.{left_law}
use Rattle.program_ends.proofs.laws.what_is_left_is_part.Goals as goal

pub returns : goal.returns
returns c = left_law
