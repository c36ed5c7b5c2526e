use Rattle.std.proofs.Common.{sym, ap, ◌∙◌}
use Rattle.geo_lease.specs.Plans.{slot_at}
use Rattle.geo_lease.specs.Views.{has}
use Rattle.geo_lease.proofs.Lists.{has_here}
use Rattle.geo_lease.proofs.Rows.{some_value, put_back_only}
use Rattle.geo_lease.proofs.tests.look_at.Goals as goal

pub fetch-content-requires-clause-unfetched : goal.fetch-content-requires-clause-unfetched
fetch-content-requires-clause-unfetched c k at = ap (has k) c.requires.empty

pub put_back-requires-clause-fetched : goal.put_back-requires-clause-fetched
put_back-requires-clause-fetched c k at =
    let turn = c.args.turn.now.seat.me.0 in
    let before = ap (slot_at c.args.geode) (sym c.fetch-content.ensures.same.1.3) ∙ at in
    ap (has k) (c.fetch-content.ensures.fetched k before) ∙ has_here k turn.out

pub returns-clause-empty : goal.returns-clause-empty
returns-clause-empty c =
    let slot = some_value (slot_at c.args.geode c.args.lease.now.places.items) c.requires.named in
    let after = ap (slot_at c.args.geode) c.fetch-content.ensures.same.1.3 ∙ slot.1 in
    put_back_only slot.0 c.args.turn.now.seat.me.0.out c.fetch-content.new.turn.seat.me.0.out c.put_back.new.turn.seat.me.0.out c.requires.empty (c.fetch-content.ensures.fetched slot.0 slot.1) (c.put_back.ensures.returned slot.0 after)
