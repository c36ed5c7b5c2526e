use Rattle.std.proofs.Common.{sym, subst}
use Rattle.pf_model.specs.Limits.{IsGraphWithinLimits}
use Rattle.pf_model.specs.NodeEdits.{with_kind}
use Rattle.pf_edits.proofs.Listed.{changed_nodes}
use Rattle.pf_edits.proofs.Works.{told_nodes}
use Rattle.pf_edits.proofs.Rollbacks.{there_look}
use Rattle.std.proofs.Common.{None}
use Rattle.pf_edits.proofs.Tights.{same_grows}
use Rattle.pf_edits.proofs.work.Work.undo_kind.Goals as goal

pub swap_kind-requires-clause-there : goal.swap_kind-requires-clause-there
swap_kind-requires-clause-there c = there_look c.args.self.now.records.slots c.args.id c.requires.can

pub returns-clause-told : goal.returns-clause-told
returns-clause-told c =
    let w = c.args.self.now in
    told_nodes w.time w.next_serial w.gone.items _ _ (changed_nodes w.records.slots c.swap_kind.new.records.slots c.args.id (with_kind c.args.kind) c.swap_kind.ensures.nodes)

pub returns-clause-working : goal.returns-clause-working
returns-clause-working c =
    let w = c.args.self.now in
    record {
      sound = c.swap_kind.ensures.sound;
      free = c.requires.working.free;
      within = subst IsGraphWithinLimits (sym (told_nodes w.time w.next_serial w.gone.items _ _ (changed_nodes w.records.slots c.swap_kind.new.records.slots c.args.id (with_kind c.args.kind) c.swap_kind.ensures.nodes))) c.requires.within;
    }

pub returns-clause-entries : goal.returns-clause-entries
returns-clause-entries c = same_grows None c.args.self.now.records.slots c.swap_kind.new.records.slots c.swap_kind.ensures.parents
