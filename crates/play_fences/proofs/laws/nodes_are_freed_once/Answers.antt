use Rattle.play_fences.proofs.Burying.{freed_once_law}
use Rattle.play_fences.proofs.laws.nodes_are_freed_once.Goals as goal

pub returns : goal.returns
returns c = freed_once_law
