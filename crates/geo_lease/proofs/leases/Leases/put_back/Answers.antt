use Rattle.std.proofs.Common.{◌≡◌, sym, ap, ◌∙◌, subst}
use Rattle.std.proofs.lemmas.Option.{same_Some}
use Rattle.geo_lease.specs.Plans.{HasPlace}
use Rattle.geo_lease.proofs.Swaps.{place_for}
use Rattle.geo_lease.proofs.leases.Leases.put_back.Goals as goal

pub swap_in-requires-clause-leased : goal.swap_in-requires-clause-leased
swap_in-requires-clause-leased g c =
    let lease = c.args.lease.now in
    let place = place_for lease.seat.me.0.plan lease.frame lease.places.items c.args.geode c.slot_of-slot.result lease.outlined c.slot_of-slot.ensures in
    let same : place.1 ≡ c.args.content = same_Some place.1 c.args.content (sym place.4 ∙ c.requires.content) in
    (place.0, ap (λ v. v.plan) c.learn.ensures.learned ∙ place.2, subst (λ (x : g.row.T.Denot). HasPlace place.0 c.slot_of-slot.result x) same place.3)
