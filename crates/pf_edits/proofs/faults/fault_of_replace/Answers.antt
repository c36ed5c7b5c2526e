use Rattle.std.proofs.Common.{sym, [], ◌∷◌}
use Rattle.pf_model.specs.Edits.{cycle, swap_rules}
use Rattle.pf_model.proofs.Rules.{first_stops}
use Rattle.pf_edits.specs.Listed.{nodes_of}
use Rattle.pf_edits.proofs.faults.fault_of_replace.Goals as goal

pub returns-in-Some : goal.returns-in-Some
returns-in-Some c =
    let a = c.args in
    sym (first_stops (swap_rules (nodes_of a.records.now.slots) a.parent a.child a.by) (cycle (nodes_of a.records.now.slots) a.parent a.by ∷ []) c.in-Some.fault c.in-Some.ensures)
