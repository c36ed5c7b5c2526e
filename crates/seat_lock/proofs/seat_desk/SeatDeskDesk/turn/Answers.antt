use Rattle.std.proofs.Common.{◌∙◌}
use Rattle.seat_lock.proofs.Told.{own_turned, stands_turned}
use Rattle.seat_lock.proofs.seat_desk.SeatDeskDesk.turn.Goals as goal

pub invariant_of-self : goal.invariant_of-self
invariant_of-self g c =
    let before = c.args.self.now in
    let v = before.pass.seat.me.0 in
    record {
      fits = c.turn.ensures.lock ∙ before.fits;
      own = own_turned g.T.Logged.log (g.A.Act.does c.args.act v.number) v c.turn.new.pass.seat.me.0 c.turn.result c.turn.ensures.turned before.own;
    }

pub returns-clause-stands : goal.returns-clause-stands
returns-clause-stands g c =
    let before = c.args.self.now in
    let v = before.pass.seat.me.0 in
    stands_turned g.T.Logged.log (g.A.Act.does c.args.act v.number) v c.turn.new.pass.seat.me.0 c.turn.result before.pass.seat.table_id c.turn.new.pass.seat.table_id c.turn.ensures.lock c.turn.ensures.turned
