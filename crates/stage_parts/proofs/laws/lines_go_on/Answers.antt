use Rattle.stage_parts.proofs.DbaseSteps.{lines_law}
use Rattle.stage_parts.proofs.laws.lines_go_on.Goals as goal

pub returns : goal.returns
returns c = lines_law
