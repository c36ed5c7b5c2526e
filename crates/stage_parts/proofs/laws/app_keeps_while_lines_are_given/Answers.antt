use Rattle.stage_parts.proofs.Growing.{app_grows_law}
use Rattle.stage_parts.proofs.laws.app_keeps_while_lines_are_given.Goals as goal

pub returns : goal.returns
returns c = app_grows_law
