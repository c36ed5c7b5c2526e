-- The seat sits at the table, which has one word, and the step that tells an entry keeps the rule.
use Rattle.std.proofs.Common.{arith}
use Rattle.told_log.proofs.Steps.{allows_tell}
use Rattle.told_log.proofs.past.Past.tell.Goals as goal

pub compare_exchange_with-requires : goal.compare_exchange_with-requires
compare_exchange_with-requires g c = let seated = c.args.self.now.seated in (seated.0, omega (arith, seated.1), allows_tell _ _ _ c.args.item.now)
