use Rattle.std.proofs.Common.{Some, sym, ap, ◌∙◌}
use Rattle.geo_lease.proofs.Swaps.{place_for}
use Rattle.geo_lease.proofs.leases.Leases.fetch.Goals as goal

pub swap_out-requires-clause-leased : goal.swap_out-requires-clause-leased
swap_out-requires-clause-leased g c =
    let lease = c.args.lease.now in
    let place = place_for lease.seat.me.0.plan lease.frame lease.places.items c.args.geode c.slot_of-slot.result lease.outlined c.slot_of-slot.ensures in
    (place.0, place.1, ap (λ v. v.plan) c.learn.ensures.learned ∙ place.2, place.3)

pub returns-clause-content : goal.returns-clause-content
returns-clause-content g c =
    let lease = c.args.lease.now in
    let place = place_for lease.seat.me.0.plan lease.frame lease.places.items c.args.geode c.slot_of-slot.result lease.outlined c.slot_of-slot.ensures in
    place.4 ∙ ap (λ (x : g.row.T.Denot). Some x) (sym (c.swap_out.ensures.content place.0 place.1 (ap (λ v. v.plan) c.learn.ensures.learned ∙ place.2) place.3))
