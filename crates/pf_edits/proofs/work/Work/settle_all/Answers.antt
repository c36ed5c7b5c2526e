use Rattle.std.proofs.Common.{◌∙◌}
use Rattle.pf_edits.specs.Settling.{any_takes, any_frees, any_loses}
use Rattle.pf_edits.proofs.Tights.{settled_tight, settled_both}
use Rattle.pf_edits.proofs.work.Work.settle_all.Goals as goal

pub returns-clause-tight : goal.returns-clause-tight
returns-clause-tight c =
    let s = c.args.self.now in
    let es = c.args.es.now in
    let us = c.args.done.now in
    settled_tight s c.settle_all_deleted.new.self (any_loses es us) (c.settle_all_deleted.ensures.told ∙ c.settle_lost.ensures.told)
    (λ b p h. c.settle_lost.ensures.fewer b p (c.settle_all_deleted.ensures.fewer b p h))
    (settled_both c.settle_lost.new.self c.settle_all_deleted.new.self (any_takes es) (any_frees us) c.settle_all_deleted.ensures.told c.settle_all_deleted.ensures.fewer
    c.settle_lost.ensures.settled c.settle_all_deleted.ensures.settled) c.requires.lost
