use Rattle.stage_parts.proofs.DrawSteps.{draw_law}
use Rattle.stage_parts.proofs.laws.draw_goes_on.Goals as goal

pub returns : goal.returns
returns c = draw_law
