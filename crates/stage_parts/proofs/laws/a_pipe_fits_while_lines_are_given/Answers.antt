use Rattle.stage_parts.proofs.Growing.{pipe_grows_law}
use Rattle.stage_parts.proofs.laws.a_pipe_fits_while_lines_are_given.Goals as goal

pub returns : goal.returns
returns c = pipe_grows_law
