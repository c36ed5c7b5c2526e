use Rattle.std.proofs.Common.{rules}
use Rattle.seat_lock.proofs.Sharing.{joins}
use Rattle.seat_lock.proofs.lock.SeatLock.take_in.Goals as goal

pub join_seat-requires : goal.join_seat-requires
join_seat-requires g c =
    let mine = c.requires.rests in
    let its = c.requires.other_rests in
    (search rules, search rules, search rules, search rules, joins g.T.Logged.log c.args.seat.now.id c.args.other.id c.args.seat.now.me.0 c.args.other.me.0 mine.0 its.0 mine.1 its.2)
