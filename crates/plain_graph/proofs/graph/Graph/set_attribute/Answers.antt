use Rattle.std.proofs.Common.{◌≡◌, OnOk, OnErr, IfErr, None, subst, rules, length}
use Rattle.std.proofs.lemmas.List.{with_items_is}
use Rattle.pf_model.specs.Graphs.{SceneGraph, node_at, change}
use Rattle.pf_model.specs.Copies.{named_by}
use Rattle.pf_model.specs.NodeEdits.{node_after}
use Rattle.pf_model.specs.Edits.{first, attribute_rules, fault_of, after, Refuses}
use Rattle.pf_model.proofs.EditLimits.{limits_effect, limits_kept}
use Rattle.plain_graph.proofs.Effects.{attribute_done, attribute_refused, attribute_after}
use Rattle.plain_graph.proofs.graph.Graph.set_attribute.Goals as goal

pub returns-clause-done : goal.returns-clause-done
returns-clause-done c =
    let g : SceneGraph = record { nodes = c.self.inside.nodes.items; time = c.self.inside.time; next_serial = c.self.inside.next_serial; gone = c.self.inside.gone.items } in
    let r = c.set_attribute.result in
    let e = c.args.e.now in
    let met : OnOk r (first (attribute_rules e (node_at g.nodes (named_by e))) ≡ None) = search rules in
    subst (λ (h : SceneGraph). OnOk r (fault_of h e ≡ None)) c.self.view_is (attribute_done r g e c.requires.attribute met)

pub returns-clause-fault : goal.returns-clause-fault
returns-clause-fault c =
    let g : SceneGraph = record { nodes = c.self.inside.nodes.items; time = c.self.inside.time; next_serial = c.self.inside.next_serial; gone = c.self.inside.gone.items } in
    let r = c.set_attribute.result in
    let e = c.args.e.now in
    let met : IfErr r (λ x. Refuses x (first (attribute_rules e (node_at g.nodes (named_by e))))) = search rules in
    subst (λ (h : SceneGraph). IfErr r (λ x. Refuses x (fault_of h e))) c.self.view_is (attribute_refused r g e c.requires.attribute met)

pub returns-clause-after : goal.returns-clause-after
returns-clause-after c =
    let g : SceneGraph = record { nodes = c.self.inside.nodes.items; time = c.self.inside.time; next_serial = c.self.inside.next_serial; gone = c.self.inside.gone.items } in
    let r = c.set_attribute.result in
    let e = c.args.e.now in
    let met : OnOk r (first (attribute_rules e (node_at g.nodes (named_by e))) ≡ None) = search rules in
    let nodes : OnOk r (c.set_attribute.new.nodes ≡ change (named_by e) (node_after g.time e) g.nodes) = search rules in
    let len : length c.set_attribute.new.nodes ≡ c.self.inside.nodes.len = search rules in
    rw (with_items_is c.self.inside.nodes c.set_attribute.new.nodes len)
    (subst (λ (h : SceneGraph). OnOk r (record g { nodes = c.set_attribute.new.nodes } ≡ after h e)) c.self.view_is
    (attribute_after r g e c.set_attribute.new.nodes c.requires.attribute (attribute_done r g e c.requires.attribute met) nodes))

pub invariant_of-self : goal.invariant_of-self
invariant_of-self c =
    let g : SceneGraph = record { nodes = c.self.inside.nodes.items; time = c.self.inside.time; next_serial = c.self.inside.next_serial; gone = c.self.inside.gone.items } in
    let h : SceneGraph = record g { nodes = c.set_attribute.new.nodes } in
    let r = c.set_attribute.result in
    let e = c.args.e.now in
    let len : length c.set_attribute.new.nodes ≡ c.self.inside.nodes.len = search rules in
    let met : OnOk r (first (attribute_rules e (node_at g.nodes (named_by e))) ≡ None) = search rules in
    let nodes : OnOk r (h.nodes ≡ change (named_by e) (node_after g.time e) g.nodes) = search rules in
    let done : OnOk r (h ≡ after g e) = attribute_after r g e h.nodes c.requires.attribute (attribute_done r g e c.requires.attribute met) nodes in
    let same : OnErr r (h ≡ g) = search rules in
    rw (with_items_is c.self.inside.nodes h.nodes len) (limits_kept r g h e c.self.invariant (limits_effect g e c.self.invariant c.requires.fits) done same)
