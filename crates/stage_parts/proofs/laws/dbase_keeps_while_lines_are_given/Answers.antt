use Rattle.stage_parts.proofs.Growing.{dbase_grows_law}
use Rattle.stage_parts.proofs.laws.dbase_keeps_while_lines_are_given.Goals as goal

pub returns : goal.returns
returns c = dbase_grows_law
