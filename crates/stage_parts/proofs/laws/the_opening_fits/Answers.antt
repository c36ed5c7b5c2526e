use Rattle.stage_parts.proofs.DbaseSteps.{opening_law}
use Rattle.stage_parts.proofs.laws.the_opening_fits.Goals as goal

pub returns : goal.returns
returns c = opening_law
