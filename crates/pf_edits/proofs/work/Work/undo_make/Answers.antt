use Rattle.std.proofs.Common.{◌-◌, ◌<◌, sym, subst, arith}
use Rattle.pf_model.specs.Limits.{IsGraphWithinLimits}
use Rattle.pf_edits.specs.Working.{told}
use Rattle.pf_edits.proofs.Listed.{without_nodes}
use Rattle.pf_edits.proofs.Works.{told_nodes}
use Rattle.pf_edits.proofs.Rollbacks.{made_unused, positive_serial, made_parents}
use Rattle.pf_edits.proofs.Tights.{taken_grows}
use Rattle.pf_edits.proofs.work.Work.undo_make.Goals as goal

pub remove-requires-clause-unused : goal.remove-requires-clause-unused
remove-requires-clause-unused c = made_unused c.args.self.now c.requires.working c.args.id c.requires.within.within.limits

pub overflow_sub-serial : goal.overflow_sub-serial
overflow_sub-serial c = let p : 0 < c.args.self.now.next_serial = positive_serial (told c.args.self.now) c.requires.working.within c.args.id c.requires.can in omega (arith, p)

pub returns-clause-told : goal.returns-clause-told
returns-clause-told c =
    let w = c.args.self.now in
    told_nodes w.time (w.next_serial - 1) w.gone.items _ _ (without_nodes w.records.slots c.remove.new.records.slots c.args.id c.remove.ensures.nodes)

pub returns-clause-parents : goal.returns-clause-parents
returns-clause-parents c = made_parents c.args.self.now.records.slots c.remove.new.records.slots c.args.id c.remove.ensures.parents

pub returns-clause-working : goal.returns-clause-working
returns-clause-working c =
    let w = c.args.self.now in
    record {
      sound = c.remove.ensures.sound;
      free = c.requires.working.free;
      within = subst IsGraphWithinLimits (sym (told_nodes w.time (w.next_serial - 1) w.gone.items _ _ (without_nodes w.records.slots c.remove.new.records.slots c.args.id c.remove.ensures.nodes))) c.requires.within;
    }

pub returns-clause-entries : goal.returns-clause-entries
returns-clause-entries c = taken_grows c.args.self.now.records.slots c.remove.new.records.slots c.args.id c.remove.ensures.nodes c.remove.ensures.parents
