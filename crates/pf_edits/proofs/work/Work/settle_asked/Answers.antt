use Rattle.std.proofs.Common.{ℕ, Option, ◌∙◌, ap, subst}
use Rattle.pf_model.specs.declared.edits.Edit.{Edit}
use Rattle.pf_edits.specs.Settling.{asked_link, is_link, AreSettled}
use Rattle.pf_edits.proofs.Tights.{settled_more}
use Rattle.pf_edits.proofs.work.Work.settle_asked.Goals as goal

pub loop-e-preserved : goal.loop-e-preserved
loop-e-preserved c =
    let v = c.loop-e.invariant in
    record {
      working = c.settle_pair.ensures.working;
      same = c.settle_pair.ensures.told ∙ v.same;
      fewer = λ b p h. v.fewer b p (c.settle_pair.ensures.fewer b p h);
      settled = settled_more c.loop-e.self c.settle_pair.new.self (λ (e : Edit). is_link (asked_link e)) c.args.es.now c.loop-e.e-index c.e-item.result c.loop-e-test.true
          c.settle_pair.ensures.told c.settle_pair.ensures.fewer
          (subst (λ (o : Option (ℕ × ℕ)). AreSettled c.settle_pair.new.self.records.slots (is_link o)) (c.asked_link.ensures ∙ ap (λ (e : Edit). asked_link e) c.e-item.is) c.settle_pair.ensures.settled)
          v.settled;
    }
