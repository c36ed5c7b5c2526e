use Rattle.std.proofs.Common.{◌∙◌}
use Rattle.pf_edits.proofs.Settles.{more_settled}
use Rattle.pf_edits.proofs.settle.settle_links.Goals as goal

pub loop-child-preserved : goal.loop-child-preserved
loop-child-preserved c =
    let v = c.loop-child.invariant in
    record {
      nodes = λ b. c.settle_link.ensures.nodes b ∙ v.nodes b;
      sound = c.settle_link.ensures.sound;
      fewer = λ b p h. v.fewer b p (c.settle_link.ensures.fewer b p h);
      settled = more_settled c.loop-child.records.slots c.settle_link.new.records.slots c.args.parent c.args.children.now c.loop-child.child-index c.loop-child-test.true
          c.settle_link.ensures.nodes c.settle_link.ensures.fewer c.settle_link.ensures.gone v.settled;
    }
