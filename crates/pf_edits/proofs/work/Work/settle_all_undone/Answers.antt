use Rattle.pf_edits.specs.Settling.{any_asks}
use Rattle.pf_edits.proofs.Tights.{settled_tight}
use Rattle.pf_edits.proofs.work.Work.settle_all_undone.Goals as goal

pub returns-clause-tight : goal.returns-clause-tight
returns-clause-tight c =
    settled_tight c.args.self.now c.settle_asked.new.self (any_asks c.args.es.now) c.settle_asked.ensures.told c.settle_asked.ensures.fewer c.settle_asked.ensures.settled c.requires.asked
