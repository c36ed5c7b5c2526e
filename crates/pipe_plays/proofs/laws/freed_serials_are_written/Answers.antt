use Rattle.pipe_plays.proofs.Shows.{freed_written}
use Rattle.pipe_plays.proofs.laws.freed_serials_are_written.Goals as goal

pub returns : goal.returns
returns c = freed_written
