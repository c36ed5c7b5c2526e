use Rattle.std.proofs.Common.{rules}
use Rattle.geo_lease.proofs.Rules.{lends, learns}
use Rattle.geo_lease.proofs.leases.Leases.learn.Goals as goal

pub split_seat-copy-requires : goal.split_seat-copy-requires
split_seat-copy-requires g c =
    let lease = c.args.lease.now in
    (search rules, search rules, lends _ _ lease.seat.id lease.seat.me.0 (λ o. absurd (cc (lease.lends.0, o))))

pub join_seat-requires : goal.join_seat-requires
join_seat-requires g c =
    let turn = c.args.turn.now in
    let copy = c.split_seat-copy.result in
    (search rules, search rules, search rules, search rules, learns _ _ turn.seat.id copy.id turn.seat.me.0 copy.me.0 turn.rests.0)
