-- The seat sits at the table, which has one word, and the step of a pop keeps the rule.
use Rattle.std.proofs.Common.{arith}
use Rattle.frame_link.proofs.Steps.{allows_take}
use Rattle.frame_link.proofs.list_link.ListLinkTakeEnd.pop.Goals as goal

pub compare_exchange_with-requires : goal.compare_exchange_with-requires
compare_exchange_with-requires g c = let seated = c.args.self.now.seated in (seated.0, omega (arith, seated.1), allows_take _ _ _ c.in_ok-item.item)
