use Rattle.pipe_plays.proofs.Shows.{shown_law}
use Rattle.pipe_plays.proofs.laws.a_pipe_shows_its_history.Goals as goal

pub returns : goal.returns
returns c = shown_law c.culling_keeps_the_picture.ensures.list
