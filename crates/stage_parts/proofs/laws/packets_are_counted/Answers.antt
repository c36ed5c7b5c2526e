use Rattle.stage_parts.proofs.Counting.{counting_law}
use Rattle.stage_parts.proofs.laws.packets_are_counted.Goals as goal

pub returns : goal.returns
returns c = counting_law
