use Rattle.pipe_plays.proofs.CaughtUp.{caught_up_law}
use Rattle.pipe_plays.proofs.laws.a_pipe_catches_up.Goals as goal

pub returns : goal.returns
returns c = caught_up_law c.culling_keeps_the_picture.ensures.list
