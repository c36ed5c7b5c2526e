use Rattle.std.proofs.Common.{◌≡◌, OnOk, OnErr, length, rules}
use Rattle.std.proofs.lemmas.List.{with_items_is}
use Rattle.pf_model.specs.declared.edits.Edit.TheVariants as edit
use Rattle.pf_model.specs.Graphs.{SceneGraph}
use Rattle.pf_model.specs.Edits.{after}
use Rattle.pf_model.proofs.EditLimits.{limits_kept}
use Rattle.pf_model.proofs.LinkLimits.{limits_insert}
use Rattle.plain_graph.proofs.graph.Graph.insert.Goals as goal

pub invariant_of-self : goal.invariant_of-self
invariant_of-self c =
    let a = c.args in
    let g : SceneGraph = record { nodes = c.self.inside.nodes.items; time = c.self.inside.time; next_serial = c.self.inside.next_serial; gone = c.self.inside.gone.items } in
    let h : SceneGraph = record g { nodes = c.insert.new.nodes } in
    let e = edit.Insert a.parent a.place a.child in
    let len : length c.insert.new.nodes ≡ c.self.inside.nodes.len = search rules in
    let done : OnOk c.insert.result (h ≡ after g e) = search rules in
    let same : OnErr c.insert.result (h ≡ g) = search rules in
    rw (with_items_is c.self.inside.nodes c.insert.new.nodes len) (limits_kept c.insert.result g h e c.self.invariant (limits_insert g a.parent a.place a.child c.self.invariant) done same)
