use Rattle.std.proofs.Common.{◌-◌, ◌+◌, sym, ◌∙◌, ap, subst, arith}
use Rattle.bound_cache.specs.declared.table.BoxTable.{BoxTable}
use Rattle.bound_cache.specs.Tables.{is_done}
use Rattle.bound_cache.specs.Views.{table_of}
use Rattle.bound_cache.proofs.Visiting.{VisitedSome, visited_more, visited_already, visited_done, visited_proceeds, visited_right}
use Rattle.bound_cache.proofs.table.BoxTable.+visit.Goals as goal
use Rattle.bound_cache.proofs.table.BoxTable.+visit.Goals.{then-not-is_done, else-not-is_done}

pub loop-part-preserved : goal.loop-part-preserved
loop-part-preserved g t c =
    let look = g.V.NodeView.look c.args.scene.now in
    let ids = c.parts_of-parts.result.now in
    let i = c.loop-part.part-index in
    let from = table_of c.args.self.now in
    elim c.if-not-is_done.branch [
      | then-not-is_done w ↦ subst (λ (s : BoxTable). VisitedSome look (c.args.levels - 1) ids (i + 1) from (table_of s)) (sym w.self-is)
          (visited_more look (c.args.levels - 1) ids i from (table_of c.loop-part.self) (table_of w.visit.new.self) (omega arith) c.loop-part.invariant w.visit.ensures.done w.visit.ensures.proceeds w.visit.ensures.right)
      | else-not-is_done w ↦ subst (λ (s : BoxTable). VisitedSome look (c.args.levels - 1) ids (i + 1) from (table_of s)) (sym w.self-is)
          (visited_already look (c.args.levels - 1) ids i from (table_of c.loop-part.self) (omega arith) c.loop-part.invariant
          (ap is_done (sym c.mark_of-in-loop-part.ensures) ∙ sym c.is_done-in-loop-part.ensures ∙ w.if-not-is_done.false))
    ]

pub returns-clause-done : goal.returns-clause-done
returns-clause-done g t c = λ l. visited_done (g.V.NodeView.look c.args.scene.now) c.args.id (table_of c.loop-part.self) (table_of c.settle.new.self) c.settle.ensures

pub returns-clause-proceeds : goal.returns-clause-proceeds
returns-clause-proceeds g t c =
    visited_proceeds (g.V.NodeView.look c.args.scene.now) c.args.id (table_of c.args.self.now) (table_of c.loop-part.self) (table_of c.settle.new.self) c.loop-part.invariant.proceeds c.settle.ensures

pub returns-clause-right : goal.returns-clause-right
returns-clause-right g t c =
    visited_right (g.V.NodeView.look c.args.scene.now) c.args.levels c.args.id c.loop-part.part-index c.parts_of-parts.result.now (table_of c.args.self.now) (table_of c.loop-part.self) (table_of c.settle.new.self)
    (omega arith) c.parts_of-parts.ensures (omega arith) c.loop-part.invariant c.settle.ensures
