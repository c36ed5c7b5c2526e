use Rattle.std.proofs.Common.{◌≡◌, Option, None, is_some, sym, ◌∙◌, ap, rules}
use Rattle.pf_model.specs.declared.nodes.Node.{Node}
use Rattle.pf_model.specs.Edits.{absent}
use Rattle.pf_model.proofs.Rules.{there_from}
use Rattle.pf_edits.specs.Listed.{nodes_of}
use Rattle.pf_edits.proofs.Listed.{found}
use Rattle.pf_edits.proofs.faults.fault_of_delete.Goals as goal

pub is_used-requires-clause-there : goal.is_used-requires-clause-there
is_used-requires-clause-there c =
    let none : None ≡ absent (nodes_of c.args.records.now.slots) c.args.id = search rules in
    ap (λ (o : Option Node). is_some o) (sym (found c.args.records.now.slots c.args.id)) ∙ there_from (nodes_of c.args.records.now.slots) c.args.id none
