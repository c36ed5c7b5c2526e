use Rattle.pf_model.proofs.Named.{only_named, effect_rising}
use Rattle.pf_model.proofs.laws.edits_change_what_they_name.Goals as goal

pub returns-clause-others : goal.returns-clause-others
returns-clause-others c = only_named

pub returns-clause-order : goal.returns-clause-order
returns-clause-order c = effect_rising
