-- The seat sits at the table, which has one word, and the step that adds an entry keeps the rule.
use Rattle.std.proofs.Common.{arith}
use Rattle.told_log.proofs.Steps.{allows_add}
use Rattle.told_log.proofs.past.Past.add.Goals as goal

pub compare_exchange_with-requires : goal.compare_exchange_with-requires
compare_exchange_with-requires g c = let seated = c.args.self.now.seated in (seated.0, omega (arith, seated.1), allows_add _ _ _ c.args.item.now)
