use Rattle.std.proofs.Common.{rules}
use Rattle.seat_lock.proofs.Turning.{notes}
use Rattle.seat_lock.proofs.lock.SeatLock.note.Goals as goal

pub fetch_add-requires : goal.fetch_add-requires
fetch_add-requires g c = (search rules, search rules, notes g.T.Logged.log _ c.args.seat.now.id c.args.seat.now.me c.requires.more)
