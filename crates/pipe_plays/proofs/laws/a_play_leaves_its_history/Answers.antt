use Rattle.pipe_plays.proofs.Shows.{leaves_law}
use Rattle.pipe_plays.proofs.laws.a_play_leaves_its_history.Goals as goal

pub returns : goal.returns
returns c = leaves_law c.culling_keeps_the_picture.ensures.list
