use Rattle.stage_parts.proofs.Streams.{stream_law}
use Rattle.stage_parts.proofs.laws.stream_is_a_front_of_the_pictures.Goals as goal

pub returns : goal.returns
returns c = stream_law
