use Rattle.std.proofs.Common.{rules}
use Rattle.seat_lock.proofs.Turning.{recalls}
use Rattle.seat_lock.proofs.lock.SeatLock.recall.Goals as goal

pub load-requires : goal.load-requires
load-requires g c = (search rules, search rules, recalls g.T.Logged.log _ c.args.seat.now.id c.args.seat.now.me)
