use Rattle.stage_parts.proofs.Numbers.{numbers_law}
use Rattle.stage_parts.proofs.laws.numbers_tell.Goals as goal

pub returns : goal.returns
returns c = numbers_law
