use Rattle.std.proofs.Common.{rules, ◌<◌, arith, length, Some}
use Rattle.seat_lock.proofs.Turning.{draws}
use Rattle.seat_lock.proofs.Told.{in_hand}
use Rattle.seat_lock.proofs.lock.SeatLock.take.Goals as goal

pub fetch_add-ticket-requires : goal.fetch_add-ticket-requires
fetch_add-ticket-requires g c =
    let awake : 0 < length c.args.seat.now.me.0.answers = c.requires.rests.2 in
    (search rules, search rules, draws g.T.Logged.log _ c.args.seat.now.id c.args.seat.now.me c.requires.rests.0 (omega arith))

pub exchange-requires : goal.exchange-requires
exchange-requires g c =
    let served = c.wait_for.ensures.served in
    (search rules, (Some served.1, in_hand g.T.Logged.log c.fetch_add-ticket.new.seat.me c.wait_for.new.seat.me served.0 served.1 served.3))
