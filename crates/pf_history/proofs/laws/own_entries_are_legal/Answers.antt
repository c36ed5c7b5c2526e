use Rattle.pf_history.proofs.Folds.{own_entry_law}
use Rattle.pf_history.proofs.laws.own_entries_are_legal.Goals as goal

pub returns : goal.returns
returns c = own_entry_law
