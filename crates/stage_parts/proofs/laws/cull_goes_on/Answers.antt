use Rattle.stage_parts.proofs.CullSteps.{cull_law}
use Rattle.stage_parts.proofs.laws.cull_goes_on.Goals as goal

pub returns : goal.returns
returns c = cull_law
