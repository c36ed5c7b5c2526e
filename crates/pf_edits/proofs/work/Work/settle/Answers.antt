use Rattle.std.proofs.Common.{ℕ, Option, ◌∙◌, subst}
use Rattle.pf_edits.specs.Undoing.{frees}
use Rattle.pf_edits.specs.Settling.{lost_link, is_link, loses, AreSettled}
use Rattle.pf_edits.proofs.Tights.{settled_tight, settled_both}
use Rattle.pf_edits.proofs.work.Work.settle.Goals as goal

pub returns-clause-tight : goal.returns-clause-tight
returns-clause-tight c =
    let s = c.args.self.now in
    let e = c.args.e.now in
    let u = c.args.u.now in
    settled_tight s c.settle_deleted.new.self (loses e u) (c.settle_deleted.ensures.told ∙ c.settle_pair.ensures.told)
    (λ b p h. c.settle_pair.ensures.fewer b p (c.settle_deleted.ensures.fewer b p h))
    (settled_both c.settle_pair.new.self c.settle_deleted.new.self (is_link (lost_link e)) (frees u.id u.older) c.settle_deleted.ensures.told c.settle_deleted.ensures.fewer
    (subst (λ (o : Option (ℕ × ℕ)). AreSettled c.settle_pair.new.self.records.slots (is_link o)) c.lost_link.ensures c.settle_pair.ensures.settled) c.settle_deleted.ensures.settled) c.requires.lost
