use Rattle.std.proofs.Common.{sym}
use Rattle.pf_model.specs.Edits.{link_rules, room_rules}
use Rattle.pf_model.proofs.Rules.{first_stops}
use Rattle.plain_graph.proofs.links.fault_of_add.Goals as goal

pub returns-in-Some : goal.returns-in-Some
returns-in-Some c =
    let a = c.args in
    sym (first_stops (link_rules a.nodes.now a.parent a.child) (room_rules a.nodes.now a.parent a.child) c.in-Some.fault c.in-Some.ensures)
