use Rattle.std.proofs.Common.{◌≡◌}
use Rattle.seat_lock.specs.Tokens.{pass_of}
use Rattle.seat_lock.proofs.tests.add_all.Given as goal

abbrev pub invariant-loop-number : goal.invariant-loop-number
invariant-loop-number g l = pass_of l.pass ≡ pass_of l.fn.pass
