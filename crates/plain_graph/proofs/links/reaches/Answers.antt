use Rattle.std.proofs.Common.{◌∙◌, ap}
use Rattle.plain_graph.specs.declared.survey.Extent.{Extent}
use Rattle.plain_graph.specs.Extents.{told, leaf}
use Rattle.plain_graph.proofs.Tables.{told_of}
use Rattle.plain_graph.proofs.links.reaches.Goals as goal

pub returns : goal.returns
returns c =
    ap (λ (e : Extent). e.reaches)
    (c.extent_told.ensures
    ∙ ap (λ t. told leaf c.args.nodes.now t c.args.from) (c.as_slice.ensures.value ∙ c.in_ok-table.ensures)
    ∙ told_of c.args.to c.args.nodes.now c.args.from)
