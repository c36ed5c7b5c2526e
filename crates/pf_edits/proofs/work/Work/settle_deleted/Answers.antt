use Rattle.std.proofs.Common.{sym, subst}
use Rattle.pf_model.specs.Limits.{IsGraphWithinLimits}
use Rattle.pf_edits.proofs.Listed.{same_nodes}
use Rattle.pf_edits.proofs.Works.{told_nodes}
use Rattle.pf_edits.proofs.work.Work.settle_deleted.Goals as goal

pub returns-in-Deleted-clause-told : goal.returns-in-Deleted-clause-told
returns-in-Deleted-clause-told c =
    let w = c.args.self.now in
    told_nodes w.time w.next_serial w.gone.items _ _ (same_nodes w.records.slots c.settle_links.new.records.slots c.settle_links.ensures.nodes)

pub returns-in-Deleted-clause-working : goal.returns-in-Deleted-clause-working
returns-in-Deleted-clause-working c =
    let w = c.args.self.now in
    record {
      sound = c.settle_links.ensures.sound;
      free = c.requires.free;
      within = subst IsGraphWithinLimits (sym (told_nodes w.time w.next_serial w.gone.items _ _ (same_nodes w.records.slots c.settle_links.new.records.slots c.settle_links.ensures.nodes))) c.requires.within;
    }
