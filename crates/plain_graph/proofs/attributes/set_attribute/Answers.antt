use Rattle.std.proofs.Common.{◌∙◌, ap, ℕ}
use Rattle.pf_model.specs.Graphs.{change}
use Rattle.pf_model.specs.NodeEdits.{with_kind}
use Rattle.pf_model.proofs.Changes.{change_kind}
use Rattle.plain_graph.proofs.attributes.set_attribute.Goals as goal

pub returns-clause-after : goal.returns-clause-after
returns-clause-after c =
    c.rekind.ensures.after
    ∙ ap (λ (id : ℕ). change id (with_kind c.in_ok-kind.kind) c.args.nodes.now) c.named-2.ensures
    ∙ change_kind c.args.time c.args.e.now c.in_ok-kind.kind c.args.nodes.now c.requires.attribute c.in_ok-kind.ensures
