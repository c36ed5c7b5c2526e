use Rattle.stage_parts.proofs.DbaseSteps.{dbase_law}
use Rattle.stage_parts.proofs.laws.dbase_goes_on.Goals as goal

pub returns : goal.returns
returns c = dbase_law
