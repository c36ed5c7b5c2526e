use Rattle.std.proofs.Common.{sym, subst}
use Rattle.pf_model.specs.Limits.{IsGraphWithinLimits}
use Rattle.pf_edits.proofs.Listed.{same_nodes}
use Rattle.pf_edits.proofs.Works.{told_nodes}
use Rattle.pf_edits.proofs.work.Work.settle_pair.Goals as goal

pub returns-in-Some-clause-told : goal.returns-in-Some-clause-told
returns-in-Some-clause-told c =
    let w = c.args.self.now in
    told_nodes w.time w.next_serial w.gone.items _ _ (same_nodes w.records.slots c.settle_link.new.records.slots c.settle_link.ensures.nodes)

pub returns-in-Some-clause-working : goal.returns-in-Some-clause-working
returns-in-Some-clause-working c =
    let w = c.args.self.now in
    record {
      sound = c.settle_link.ensures.sound;
      free = c.requires.free;
      within = subst IsGraphWithinLimits (sym (told_nodes w.time w.next_serial w.gone.items _ _ (same_nodes w.records.slots c.settle_link.new.records.slots c.settle_link.ensures.nodes))) c.requires.within;
    }
