use Rattle.std.proofs.Common.{rules}
use Rattle.seat_lock.proofs.Turning.{leaves}
use Rattle.seat_lock.proofs.lock.SeatLock.serve_next.Goals as goal

pub fetch_add-before-requires : goal.fetch_add-before-requires
fetch_add-before-requires g c = (search rules, search rules, leaves g.T.Logged.log _ c.args.seat.now.id c.args.seat.now.me c.requires.holds)
