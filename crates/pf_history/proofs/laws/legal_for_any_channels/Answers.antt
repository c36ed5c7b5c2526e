use Rattle.pf_history.proofs.Channels.{channels_law}
use Rattle.pf_history.proofs.laws.legal_for_any_channels.Goals as goal

pub returns : goal.returns
returns c = channels_law
