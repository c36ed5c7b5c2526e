use Rattle.std.proofs.Common.{◌≡◌, ℕ, List, None, sym, ◌∙◌, ap, rules}
use Rattle.pf_model.specs.declared.edits.Edit.TheVariants as edit
use Rattle.pf_model.specs.Graphs.{Nodes, SceneGraph, node_at, change, children_of}
use Rattle.pf_model.specs.Children.{replace_first}
use Rattle.pf_model.specs.NodeEdits.{with_children}
use Rattle.pf_model.specs.Edits.{first, replace_rules, size_rules, fault_of, effect}
use Rattle.pf_model.proofs.Rules.{first_passes, first_stops}
use Rattle.pf_model.proofs.Changes.{change_children}
use Rattle.plain_graph.specs.Places.{graph_of}
use Rattle.plain_graph.proofs.Relinks.{ends_done, ends_after, ends_fault}
use Rattle.plain_graph.proofs.Parents.{replace_parent}
use Rattle.plain_graph.proofs.links.replace.Goals as goal

-- the nodes after the edit
abbrev made : Nodes → ℕ → ℕ → ℕ → Nodes
made g parent child by = (effect (graph_of g) (edit.Replace parent child by)).nodes

pub returns-in-Some-clause-fault : goal.returns-in-Some-clause-fault
returns-in-Some-clause-fault c =
    first_stops (replace_rules c.args.nodes.now c.args.parent c.args.child c.args.by) (size_rules (made c.args.nodes.now c.args.parent c.args.child c.args.by)) c.in-Some.fault
    (sym c.in-Some.is ∙ c.in_ok-fault.ensures)

-- the children made are those of the edit
same : (g : Nodes) (parent child by : ℕ) (cs : List ℕ) → None ≡ first (replace_rules g parent child by) → cs ≡ replace_first child by (children_of (node_at g) parent) → change parent (with_children cs) g ≡ made g parent child by
same g parent child by cs none is =
    ap (λ xs. change parent (with_children xs) g) is
    ∙ change_children (replace_first child by) parent g (replace_parent g parent child by none)

ends : (g : Nodes) (parent child by : ℕ) → None ≡ first (replace_rules g parent child by) → fault_of (graph_of g) (edit.Replace parent child by) ≡ first (size_rules (made g parent child by))
ends g parent child by none = first_passes (replace_rules g parent child by) (size_rules (made g parent child by)) none

pub returns-clause-done : goal.returns-clause-done
returns-clause-done c =
    let none : None ≡ first (replace_rules c.args.nodes.now c.args.parent c.args.child c.args.by) = search rules in
    ends_done c.relink_node.result _ _ (fault_of (graph_of c.args.nodes.now) (edit.Replace c.args.parent c.args.child c.args.by))
    (same c.args.nodes.now c.args.parent c.args.child c.args.by c.in_ok-children.children none c.in_ok-children.ensures)
    (ends c.args.nodes.now c.args.parent c.args.child c.args.by none) c.relink_node.ensures.done

pub returns-clause-after : goal.returns-clause-after
returns-clause-after c =
    let none : None ≡ first (replace_rules c.args.nodes.now c.args.parent c.args.child c.args.by) = search rules in
    ends_after c.relink_node.result c.relink_node.new.nodes _ _
    (same c.args.nodes.now c.args.parent c.args.child c.args.by c.in_ok-children.children none c.in_ok-children.ensures)
    c.relink_node.ensures.after

pub returns-clause-fault : goal.returns-clause-fault
returns-clause-fault c =
    let none : None ≡ first (replace_rules c.args.nodes.now c.args.parent c.args.child c.args.by) = search rules in
    ends_fault c.relink_node.result _ _ (fault_of (graph_of c.args.nodes.now) (edit.Replace c.args.parent c.args.child c.args.by))
    (same c.args.nodes.now c.args.parent c.args.child c.args.by c.in_ok-children.children none c.in_ok-children.ensures)
    (ends c.args.nodes.now c.args.parent c.args.child c.args.by none) c.relink_node.ensures.fault
