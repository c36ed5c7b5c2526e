use Rattle.std.proofs.Common.{◌∙◌}
use Rattle.seat_lock.proofs.Told.{own_looked}
use Rattle.seat_lock.proofs.seat_desk.SeatDeskDesk.look.Goals as goal

pub invariant_of-self : goal.invariant_of-self
invariant_of-self g c =
    let before = c.args.self.now in
    let v = before.pass.seat.me.0 in
    record {
      fits = c.look.ensures.lock ∙ before.fits;
      own = own_looked g.T.Logged.log (g.G.Glance.shows c.args.glance) v c.look.new.pass.seat.me.0 c.look.result c.look.ensures.looked before.own;
    }
