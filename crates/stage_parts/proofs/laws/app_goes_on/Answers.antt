use Rattle.stage_parts.proofs.AppSteps.{app_law}
use Rattle.stage_parts.proofs.laws.app_goes_on.Goals as goal

pub returns : goal.returns
returns c = app_law
