use Rattle.std.proofs.Common.{sym, ◌∙◌}
use Rattle.pf_model.specs.Graphs.{node_at}
use Rattle.pf_model.specs.NodeEdits.{with_kind}
use Rattle.pf_model.proofs.Places.{node_at_none, none_there}
use Rattle.plain_graph.proofs.Changes.{change_here}
use Rattle.plain_graph.proofs.attributes.rekind.Goals as goal

pub unreachable-requires : goal.unreachable-requires
unreachable-requires c =
    none_there (node_at c.args.nodes.now c.args.id) (node_at_none c.args.nodes.now c.args.id (sym c.in-None.ensures)) c.requires

pub returns-clause-after : goal.returns-clause-after
returns-clause-after c =
    c.put_kind.ensures.after ∙ change_here (with_kind c.args.kind) c.args.id c.args.nodes.now c.in-Some.place (sym c.in-Some.ensures)
