use Rattle.stage_parts.proofs.Props.{facts_law}
use Rattle.stage_parts.proofs.laws.parts_are_facts.Goals as goal

pub returns : goal.returns
returns c = facts_law
