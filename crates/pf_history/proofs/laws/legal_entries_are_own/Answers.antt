use Rattle.pf_history.proofs.Folds.{legal_entry_law}
use Rattle.pf_history.proofs.laws.legal_entries_are_own.Goals as goal

pub returns : goal.returns
returns c = legal_entry_law
