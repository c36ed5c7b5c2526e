use Rattle.stage_parts.proofs.Moves.{moves_law}
use Rattle.stage_parts.proofs.laws.moves_are_few.Goals as goal

pub returns : goal.returns
returns c = moves_law
