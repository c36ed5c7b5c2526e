use Rattle.std.proofs.Common.{◌≡◌, ℕ, ◌+◌, false, get_or, sym, ◌∙◌, ap, Option, arith}
use Rattle.pf_model.specs.declared.nodes.Node.{Node}
use Rattle.update_lists.specs.Marks.{among}
use Rattle.update_lists.specs.Taking.{geode_serial}
use Rattle.update_lists.proofs.Copying.{front_with, front_without, ready_more, others_more, most_more}
use Rattle.update_lists.proofs.taking.ready_nodes.Goals as goal

-- what is under no serial of the geodes stays, also where a growth is refused
pub returns-in_err-ready_node-clause-others : goal.returns-in_err-ready_node-clause-others
returns-in_err-ready_node-clause-others g c = λ s e.
    let look : ℕ → Option Node = g.V.NodeView.look c.args.scene.now in
    let i = c.loop-id.id-index in
    others_more look c.args.ids.now i (g.A.Arrays.free c.args.arrays.now) (g.A.Arrays.free c.loop-id.arrays) (g.A.Arrays.free c.ready_node.new.arrays)
    c.loop-id-test.true c.loop-id.invariant.others
    (λ q h. c.ready_node.ensures.others q (ap (λ o. among q (geode_serial o)) c.node.ensures ∙ h))
    s (front_without look c.args.ids.now (i + 1) s e)

-- the greatest number stays within each bound, also where a growth is refused
pub returns-in_err-ready_node-clause-most : goal.returns-in_err-ready_node-clause-most
returns-in_err-ready_node-clause-most g c = λ b low below.
    let look : ℕ → Option Node = g.V.NodeView.look c.args.scene.now in
    let i = c.loop-id.id-index in
    most_more look c.args.ids.now i (g.A.Arrays.out c.args.arrays.now) (g.A.Arrays.out c.loop-id.arrays)
    (g.A.Arrays.most c.args.arrays.now) (g.A.Arrays.most c.loop-id.arrays) (g.A.Arrays.most c.ready_node.new.arrays)
    c.loop-id-test.true c.loop-id.invariant.out c.loop-id.invariant.most
    (λ q l below'. c.ready_node.ensures.most q l (λ s e. below' s (sym (ap (λ o. among s (geode_serial o)) c.node.ensures) ∙ e)))
    b low (λ s e. below s (front_with look c.args.ids.now (i + 1) s e))

pub loop-id-preserved : goal.loop-id-preserved
loop-id-preserved g c =
    let look : ℕ → Option Node = g.V.NodeView.look c.args.scene.now in
    let i = c.loop-id.id-index in
    record {
      ready = ready_more look c.args.ids.now i (g.A.Arrays.free c.loop-id.arrays) (g.A.Arrays.free c.ready_node.new.arrays)
          c.loop-id-test.true c.loop-id.invariant.ready
          (λ q h. c.in_ok-ready_node.ensures.ready q (ap (λ o. among q (geode_serial o)) c.node.ensures ∙ h))
          c.ready_node.ensures.more;
      more = λ s. omega (arith, c.loop-id.invariant.more s, c.ready_node.ensures.more s);
      others = others_more look c.args.ids.now i (g.A.Arrays.free c.args.arrays.now) (g.A.Arrays.free c.loop-id.arrays) (g.A.Arrays.free c.ready_node.new.arrays)
          c.loop-id-test.true c.loop-id.invariant.others
          (λ q h. c.ready_node.ensures.others q (ap (λ o. among q (geode_serial o)) c.node.ensures ∙ h));
      written = λ s. c.ready_node.ensures.written s ∙ c.loop-id.invariant.written s;
      out = λ s. c.ready_node.ensures.out s ∙ c.loop-id.invariant.out s;
      most = most_more look c.args.ids.now i (g.A.Arrays.out c.args.arrays.now) (g.A.Arrays.out c.loop-id.arrays)
          (g.A.Arrays.most c.args.arrays.now) (g.A.Arrays.most c.loop-id.arrays) (g.A.Arrays.most c.ready_node.new.arrays)
          c.loop-id-test.true c.loop-id.invariant.out c.loop-id.invariant.most
          (λ q l below. c.ready_node.ensures.most q l (λ s e. below s (sym (ap (λ o. among s (geode_serial o)) c.node.ensures) ∙ e)));
    }
