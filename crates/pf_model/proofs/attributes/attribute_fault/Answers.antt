use Rattle.std.proofs.Common.{◌∙◌, ap, sym}
use Rattle.pf_model.specs.Edits.{first, attribute_rules}
use Rattle.pf_model.proofs.Rules.{attribute_fault_is}
use Rattle.pf_model.proofs.attributes.attribute_fault.Goals as goal

pub returns-clause-fault : goal.returns-clause-fault
returns-clause-fault c = λ g found.
    c.fault_by_rules.ensures ∙ ap (λ o. first (attribute_rules c.args.e.now o)) (sym found) ∙ sym (attribute_fault_is g c.args.e.now c.requires)
