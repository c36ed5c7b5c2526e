use Rattle.frame_stages.proofs.DbaseSection.{holds_on}
use Rattle.frame_stages.proofs.DbaseProps.{dbase_holds_prop}
use Rattle.frame_stages.proofs.dbase_laws.the_database_process_holds_on.Goals as goal

pub returns : goal.returns
returns c = record { on = holds_on; fact = dbase_holds_prop }
