use Rattle.pipe_plays.proofs.Shows.{nothing_law}
use Rattle.pipe_plays.proofs.laws.a_play_not_begun_leaves_nothing.Goals as goal

pub returns : goal.returns
returns c = nothing_law
