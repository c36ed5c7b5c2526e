use Rattle.std.proofs.Common.{◌∙◌, ap, map, nat_lt}
use Rattle.std.specs.List.{list_any}
use Rattle.plain_graph.specs.declared.survey.Extent.{Extent}
use Rattle.pf_model.specs.Graphs.{greatest}
use Rattle.plain_graph.proofs.Tables.{heights_told, sizes_told}
use Rattle.plain_graph.proofs.links.measures.Goals as goal

pub returns-clause-height : goal.returns-clause-height
returns-clause-height c =
    c.greatest_of.ensures
    ∙ ap (λ t. greatest (map (λ (e : Extent). e.height) t)) (c.as_slice.ensures.value ∙ c.in_ok-table.ensures)
    ∙ heights_told 0 c.args.nodes.now

pub returns-clause-large : goal.returns-clause-large
returns-clause-large c =
    c.is_large.ensures
    ∙ ap (λ t. list_any (λ (e : Extent). nat_lt 131072 e.size) t) (c.as_slice-2.ensures.value ∙ c.in_ok-table.ensures)
    ∙ sizes_told 0 c.args.nodes.now
