use Rattle.std.proofs.Common.{◌≡◌, None, OnOk, IfErr, sym, subst}
use Rattle.pf_model.specs.Graphs.{Nodes, node_at}
use Rattle.pf_model.specs.Edits.{first, size_rules, Refuses}
use Rattle.pf_model.specs.NodeEdits.{with_children}
use Rattle.pf_model.proofs.Places.{node_at_none, none_there}
use Rattle.plain_graph.proofs.Changes.{change_here}
use Rattle.plain_graph.proofs.links.relink_node.Goals as goal

pub unreachable-requires : goal.unreachable-requires
unreachable-requires c =
    none_there (node_at c.args.nodes.now c.args.parent) (node_at_none c.args.nodes.now c.args.parent (sym c.in-None.ensures)) c.requires.there

pub returns-clause-done : goal.returns-clause-done
returns-clause-done c =
    subst (λ (g : Nodes). OnOk c.relink.result (first (size_rules g) ≡ None))
    (change_here (with_children c.args.children) c.args.parent c.args.nodes.now c.in-Some.place (sym c.in-Some.ensures))
    c.relink.ensures.done

pub returns-clause-after : goal.returns-clause-after
returns-clause-after c =
    subst (λ (g : Nodes). OnOk c.relink.result (c.relink.new.nodes ≡ g))
    (change_here (with_children c.args.children) c.args.parent c.args.nodes.now c.in-Some.place (sym c.in-Some.ensures))
    c.relink.ensures.after

pub returns-clause-fault : goal.returns-clause-fault
returns-clause-fault c =
    subst (λ (g : Nodes). IfErr c.relink.result (λ e. Refuses e (first (size_rules g))))
    (change_here (with_children c.args.children) c.args.parent c.args.nodes.now c.in-Some.place (sym c.in-Some.ensures))
    c.relink.ensures.fault
