use Rattle.std.proofs.Common.{sym, ◌∷◌}
use Rattle.pf_model.specs.Edits.{far_place, link_rules, room_rules}
use Rattle.pf_model.proofs.Rules.{first_stops}
use Rattle.pf_edits.specs.Listed.{nodes_of}
use Rattle.pf_edits.proofs.faults.fault_of_insert.Goals as goal

pub returns-in-Some : goal.returns-in-Some
returns-in-Some c =
    let a = c.args in
    sym (first_stops (link_rules (nodes_of a.records.now.slots) a.parent a.child) (far_place (nodes_of a.records.now.slots) a.parent a.place ∷ room_rules (nodes_of a.records.now.slots) a.parent a.child) c.in-Some.fault c.in-Some.ensures)
