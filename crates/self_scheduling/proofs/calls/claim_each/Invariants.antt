use Rattle.std.proofs.Common.{◌≡◌, []}
use Rattle.self_scheduling.specs.Seats.{SameSeat}
use Rattle.self_scheduling.proofs.calls.claim_each.Given as goal

-- the seat has come to this item and holds nothing
abbrev pub invariant-loop-k : goal.invariant-loop-k
invariant-loop-k g l =
    SameSeat l.initial.seat l.seat × (l.seat.me ≡ (record l.initial.seat.me.0 { past = l.k }, []))
