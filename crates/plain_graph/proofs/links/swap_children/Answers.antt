use Rattle.std.proofs.Common.{sym}
use Rattle.pf_model.specs.NodeEdits.{with_children}
use Rattle.plain_graph.proofs.Changes.{set_children, children_back, ids_change_at}
use Rattle.plain_graph.proofs.links.swap_children.Goals as goal

pub returns-clause-after : goal.returns-clause-after
returns-clause-after c =
    rw c.replace.ensures.after (set_children c.args.nodes.now c.args.place c.index-nodes-place.result c.args.children c.requires)

pub returns-clause-back : goal.returns-clause-back
returns-clause-back c =
    rw (c.replace.ensures.after, c.replace.ensures.value, set_children c.args.nodes.now c.args.place c.index-nodes-place.result c.args.children c.requires)
    (sym (children_back c.args.nodes.now c.args.place c.index-nodes-place.result c.args.children))

pub returns-clause-ids : goal.returns-clause-ids
returns-clause-ids c =
    rw (c.replace.ensures.after, set_children c.args.nodes.now c.args.place c.index-nodes-place.result c.args.children c.requires)
    (ids_change_at (with_children c.args.children) c.args.place c.args.nodes.now)
