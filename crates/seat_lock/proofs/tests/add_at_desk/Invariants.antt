use Rattle.std.proofs.Common.{◌≡◌}
use Rattle.seat_lock.specs.SeatDesk.{desk_lock}
use Rattle.seat_lock.proofs.tests.add_at_desk.Given as goal

abbrev pub invariant-loop-number : goal.invariant-loop-number
invariant-loop-number g l = desk_lock l.desk ≡ desk_lock l.fn.desk
