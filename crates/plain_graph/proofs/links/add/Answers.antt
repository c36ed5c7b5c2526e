use Rattle.std.proofs.Common.{◌≡◌, ℕ, List, None, sym, ◌∙◌, ap, rules, length}
use Rattle.std.specs.List.{insert}
use Rattle.pf_model.specs.declared.edits.Edit.TheVariants as edit
use Rattle.pf_model.specs.Graphs.{Nodes, SceneGraph, node_at, change, children_of}
use Rattle.pf_model.specs.NodeEdits.{with_children}
use Rattle.pf_model.specs.Edits.{first, add_rules, size_rules, fault_of, effect}
use Rattle.pf_model.proofs.Rules.{first_passes, first_stops}
use Rattle.plain_graph.proofs.Changes.{add_change}
use Rattle.plain_graph.specs.Places.{graph_of}
use Rattle.plain_graph.proofs.Relinks.{ends_done, ends_after, ends_fault}
use Rattle.plain_graph.proofs.Parents.{add_parent}
use Rattle.plain_graph.proofs.links.add.Goals as goal

-- the nodes after the edit
abbrev made : Nodes → ℕ → ℕ → Nodes
made g parent child = (effect (graph_of g) (edit.Add parent child)).nodes

pub returns-in-Some-clause-fault : goal.returns-in-Some-clause-fault
returns-in-Some-clause-fault c =
    first_stops (add_rules c.args.nodes.now c.args.parent c.args.child) (size_rules (made c.args.nodes.now c.args.parent c.args.child)) c.in-Some.fault
    (sym c.in-Some.is ∙ c.in_ok-fault.ensures)

-- the children made are those of the edit
same : (g : Nodes) (parent child : ℕ) (cs : List ℕ) → None ≡ first (add_rules g parent child) → cs ≡ insert (children_of (node_at g) parent) (length (children_of (node_at g) parent)) child → change parent (with_children cs) g ≡ made g parent child
same g parent child cs none is =
    ap (λ xs. change parent (with_children xs) g) is
    ∙ add_change parent child g (add_parent g parent child none)

ends : (g : Nodes) (parent child : ℕ) → None ≡ first (add_rules g parent child) → fault_of (graph_of g) (edit.Add parent child) ≡ first (size_rules (made g parent child))
ends g parent child none = first_passes (add_rules g parent child) (size_rules (made g parent child)) none

pub returns-clause-done : goal.returns-clause-done
returns-clause-done c =
    let none : None ≡ first (add_rules c.args.nodes.now c.args.parent c.args.child) = search rules in
    ends_done c.relink_node.result _ _ (fault_of (graph_of c.args.nodes.now) (edit.Add c.args.parent c.args.child))
    (same c.args.nodes.now c.args.parent c.args.child c.in_ok-children.children none (c.in_ok-children.ensures ∙ ap (λ n. insert (children_of (node_at c.args.nodes.now) c.args.parent) n c.args.child) c.child_count.ensures))
    (ends c.args.nodes.now c.args.parent c.args.child none) c.relink_node.ensures.done

pub returns-clause-after : goal.returns-clause-after
returns-clause-after c =
    let none : None ≡ first (add_rules c.args.nodes.now c.args.parent c.args.child) = search rules in
    ends_after c.relink_node.result c.relink_node.new.nodes _ _
    (same c.args.nodes.now c.args.parent c.args.child c.in_ok-children.children none (c.in_ok-children.ensures ∙ ap (λ n. insert (children_of (node_at c.args.nodes.now) c.args.parent) n c.args.child) c.child_count.ensures))
    c.relink_node.ensures.after

pub returns-clause-fault : goal.returns-clause-fault
returns-clause-fault c =
    let none : None ≡ first (add_rules c.args.nodes.now c.args.parent c.args.child) = search rules in
    ends_fault c.relink_node.result _ _ (fault_of (graph_of c.args.nodes.now) (edit.Add c.args.parent c.args.child))
    (same c.args.nodes.now c.args.parent c.args.child c.in_ok-children.children none (c.in_ok-children.ensures ∙ ap (λ n. insert (children_of (node_at c.args.nodes.now) c.args.parent) n c.args.child) c.child_count.ensures))
    (ends c.args.nodes.now c.args.parent c.args.child none) c.relink_node.ensures.fault
