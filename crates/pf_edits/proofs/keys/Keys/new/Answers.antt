use Rattle.pf_edits.proofs.Cells.{no_key}
use Rattle.pf_edits.proofs.keys.Keys.new.Goals as goal

pub returns-clause-none : goal.returns-clause-none
returns-clause-none c = no_key c.in_ok-cells.cells.items c.in_ok-cells.ensures.items
