use Rattle.std.proofs.Common.{refl}
use Rattle.mode_hosts.specs.Sites.{IsSameDesk}
use Rattle.mode_hosts.specs.Seats.{place_of, app_site}
use Rattle.mode_hosts.proofs.Telling.{turn_tells, app_found}
use Rattle.mode_hosts.proofs.seats.AppSeat.tell.Goals as goal

pub returns-clause-goes : goal.returns-clause-goes
returns-clause-goes g c = λ bytes.
    let s = app_site c.args.self.now in
    let q = place_of c.turn.new.self in
    let turn = c.turn.ensures in
    let desk : IsSameDesk s.place q = record { number = turn.number; stand = turn.stands } in
    app_found s s.work q bytes refl desk (turn_tells c.args.told c.args.block c.turn.result s.place.number s.place.seen q.seen turn.turned).goes_on

pub returns-clause-gains : goal.returns-clause-gains
returns-clause-gains g c =
    let s = app_site c.args.self.now in
    let q = place_of c.turn.new.self in
    (turn_tells c.args.told c.args.block c.turn.result s.place.number s.place.seen q.seen c.turn.ensures.turned).gained
