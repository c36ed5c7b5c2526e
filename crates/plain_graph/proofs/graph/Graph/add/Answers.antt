use Rattle.std.proofs.Common.{◌≡◌, OnOk, OnErr, length, rules}
use Rattle.std.proofs.lemmas.List.{with_items_is}
use Rattle.pf_model.specs.declared.edits.Edit.TheVariants as edit
use Rattle.pf_model.specs.Graphs.{SceneGraph}
use Rattle.pf_model.specs.Edits.{after}
use Rattle.pf_model.proofs.EditLimits.{limits_kept}
use Rattle.pf_model.proofs.LinkLimits.{limits_add}
use Rattle.plain_graph.proofs.graph.Graph.add.Goals as goal

pub invariant_of-self : goal.invariant_of-self
invariant_of-self c =
    let a = c.args in
    let g : SceneGraph = record { nodes = c.self.inside.nodes.items; time = c.self.inside.time; next_serial = c.self.inside.next_serial; gone = c.self.inside.gone.items } in
    let h : SceneGraph = record g { nodes = c.add.new.nodes } in
    let e = edit.Add a.parent a.child in
    let len : length c.add.new.nodes ≡ c.self.inside.nodes.len = search rules in
    let done : OnOk c.add.result (h ≡ after g e) = search rules in
    let same : OnErr c.add.result (h ≡ g) = search rules in
    rw (with_items_is c.self.inside.nodes c.add.new.nodes len) (limits_kept c.add.result g h e c.self.invariant (limits_add g a.parent a.child c.self.invariant) done same)
