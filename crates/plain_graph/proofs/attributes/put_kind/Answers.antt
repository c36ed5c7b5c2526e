use Rattle.pf_model.specs.NodeEdits.{with_kind}
use Rattle.plain_graph.proofs.Changes.{set_kind, ids_change_at}
use Rattle.plain_graph.proofs.attributes.put_kind.Goals as goal

pub returns-clause-after : goal.returns-clause-after
returns-clause-after c = set_kind c.args.nodes.now c.args.place c.index-nodes-place.result c.args.kind c.requires

pub returns-clause-ids : goal.returns-clause-ids
returns-clause-ids c =
    rw (set_kind c.args.nodes.now c.args.place c.index-nodes-place.result c.args.kind c.requires)
    (ids_change_at (with_kind c.args.kind) c.args.place c.args.nodes.now)
