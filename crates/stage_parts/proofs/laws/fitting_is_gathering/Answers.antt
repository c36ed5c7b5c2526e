use Rattle.stage_parts.proofs.Gathering.{gathering_law}
use Rattle.stage_parts.proofs.laws.fitting_is_gathering.Goals as goal

pub returns : goal.returns
returns c = gathering_law
