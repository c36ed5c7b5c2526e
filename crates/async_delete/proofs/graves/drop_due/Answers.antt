use Rattle.std.proofs.Common.{rules, arith, ap, length}
use Rattle.std.proofs.lemmas.Fn.{filter_same}
use Rattle.async_delete.proofs.Counts.{kept_and_freed}
use Rattle.async_delete.proofs.graves.drop_due.Goals as goal

pub returns-clause-kept : goal.returns-clause-kept
returns-clause-kept c = filter_same _ _ _ (λ x b f' k. search rules) _ _ c.retain.ensures.filtered

pub returns-clause-dropped : goal.returns-clause-dropped
returns-clause-dropped c =
    let kept = returns-clause-kept c in
    grind (arith, c.retain.new.self.ok.0, c.args.graves.now.ok.0, ap length kept, kept_and_freed c.args.retired c.args.graves.now.items)
