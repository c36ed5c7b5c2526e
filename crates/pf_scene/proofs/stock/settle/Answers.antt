-- One more node is written.
use Rattle.std.proofs.Common.{◌≡◌, ◌∙◌, ℕ, List, Option, sym, ap, subst}
use Rattle.pf_model.specs.declared.nodes.Node.{Node}
use Rattle.pf_model.specs.Graphs.{node_at}
use Rattle.pf_model.specs.Copies.{named_by}
use Rattle.std.specs.Prelude.{false}
use Rattle.update_lists.specs.Marks.{among}
use Rattle.update_lists.specs.Taking.{IsWritten, geode_serial}
use Rattle.cycle_buffer.specs.Cycles.{written_at}
use Rattle.pf_scene.proofs.Loops.{IsSettling, settling_more, named_more}
use Rattle.pf_scene.proofs.Trimmed.{trimmed_then}
use Rattle.pf_scene.proofs.stock.settle.Goals as goal

pub loop-e-preserved : goal.loop-e-preserved
loop-e-preserved c =
    let g = c.args.graph.now in
    let e = c.e-item.result in
    let before = written_at c.loop-e.cycles in
    let after = written_at c.settle_node.new.cycles in
    let is = c.node.ensures ∙ ap (λ (id : ℕ). node_at g.nodes id) c.named.ensures in
    record {
      settling = subst (λ (ids : List ℕ). IsSettling (written_at c.args.cycles.now) after g ids) (sym (named_more c.args.edits.now c.loop-e.e-index e c.loop-e-test.true c.e-item.is))
          (settling_more (written_at c.args.cycles.now) before after g _ (named_by e) c.keeps_limits.ensures c.loop-e.invariant.settling
          (subst (λ (o : Option Node). IsWritten after o) is c.settle_node.ensures.written)
          (λ s h. c.settle_node.ensures.others s (subst (λ (o : Option Node). among s (geode_serial o) ≡ false) (sym is) h))
          c.settle_node.ensures.lengths);
      trimmed = λ next. trimmed_then next c.args.cycles.now c.loop-e.cycles c.settle_node.new.cycles (c.loop-e.invariant.trimmed next) (c.settle_node.ensures.trimmed next);
    }
