use Rattle.std.proofs.Common.{◌∙◌, subst}
use Rattle.pf_edits.specs.declared.undo.Undo.{Undo}
use Rattle.pf_edits.specs.Undoing.{frees}
use Rattle.pf_edits.specs.Settling.{AreSettled}
use Rattle.pf_edits.proofs.Tights.{settled_more}
use Rattle.pf_edits.proofs.work.Work.settle_all_deleted.Goals as goal

pub loop-undo-preserved : goal.loop-undo-preserved
loop-undo-preserved c =
    let v = c.loop-undo.invariant in
    record {
      working = c.settle_deleted.ensures.working;
      same = c.settle_deleted.ensures.told ∙ v.same;
      fewer = λ b p h. v.fewer b p (c.settle_deleted.ensures.fewer b p h);
      settled = settled_more c.loop-undo.self c.settle_deleted.new.self (λ (u : Undo). frees u.id u.older) c.args.done.now c.loop-undo.undo-index c.undo-item.result c.loop-undo-test.true
          c.settle_deleted.ensures.told c.settle_deleted.ensures.fewer
          (subst (λ (u : Undo). AreSettled c.settle_deleted.new.self.records.slots (frees u.id u.older)) c.undo-item.is c.settle_deleted.ensures.settled) v.settled;
    }
