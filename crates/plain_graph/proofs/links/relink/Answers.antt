use Rattle.pf_model.specs.NodeEdits.{with_children}
use Rattle.plain_graph.proofs.Changes.{ids_change_at}
use Rattle.plain_graph.proofs.links.relink.Goals as goal

pub oversize-requires : goal.oversize-requires
oversize-requires c =
    rw (c.swap_children-older.ensures.after, ids_change_at (with_children c.args.children) c.args.place c.args.nodes.now) c.requires.rising
