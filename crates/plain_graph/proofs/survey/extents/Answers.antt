use Rattle.std.proofs.Common.{◌∙◌, ap, sym, arith}
use Rattle.plain_graph.specs.Extents.{leaf, next_table}
use Rattle.plain_graph.proofs.Tables.{first_table, level_next, level_last, last_table}
use Rattle.plain_graph.proofs.survey.extents.Goals as goal

pub loop-level-init : goal.loop-level-init
loop-level-init c = c.in_ok-table.ensures ∙ first_table c.args.target c.args.nodes.now c.requires

pub loop-level-preserved : goal.loop-level-preserved
loop-level-preserved c =
    c.in_ok-next.ensures
    ∙ ap (next_table c.args.target leaf c.args.nodes.now) (c.as_slice.ensures.value ∙ c.loop-level.invariant)
    ∙ level_next c.args.target c.loop-level.level c.args.nodes.now c.requires c.loop-level.auto.level

pub returns : goal.returns
returns c = c.loop-level.invariant ∙ last_table c.args.target c.loop-level.level c.args.nodes.now (omega arith)

pub returns-then-are_same : goal.returns-then-are_same
returns-then-are_same c =
    c.loop-level.invariant
    ∙ level_last c.args.target c.loop-level.level c.args.nodes.now c.loop-level.auto.level (omega arith)
    (sym (level_next c.args.target c.loop-level.level c.args.nodes.now c.requires c.loop-level.auto.level)
    ∙ ap (next_table c.args.target leaf c.args.nodes.now) (sym (c.as_slice.ensures.value ∙ c.loop-level.invariant))
    ∙ sym c.in_ok-next.ensures
    ∙ sym c.as_slice-in-loop-level.ensures.value
    ∙ c.are_same.ensures.0 c.if-are_same.true
    ∙ c.as_slice-in-loop-level-2.ensures.value
    ∙ c.loop-level.invariant)
