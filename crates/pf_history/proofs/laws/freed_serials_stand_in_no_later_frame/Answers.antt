use Rattle.pf_history.proofs.Freeing.{freed_law}
use Rattle.pf_history.proofs.laws.freed_serials_stand_in_no_later_frame.Goals as goal

pub returns : goal.returns
returns c = freed_law
