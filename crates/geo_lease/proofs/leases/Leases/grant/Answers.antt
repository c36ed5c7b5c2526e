use Rattle.std.proofs.Common.{ℕ, List, Option, Some, sym, ap, ◌∙◌}
use Rattle.std.specs.Prelude.{slice_get, is_some}
use Rattle.geo_lease.specs.declared.view.Plan.{Plan}
use Rattle.geo_lease.specs.Plans.{plan_of, recorded, with_slots, slot_at}
use Rattle.geo_lease.proofs.Tracking.{are_filled}
use Rattle.geo_lease.proofs.Granting.{pairs_current, lease_names, lease_records}
use Rattle.geo_lease.proofs.leases.Leases.grant.Goals as goal

pub hand_out-requires-clause-current : goal.hand_out-requires-clause-current
hand_out-requires-clause-current g c i p at =
    let keeper = c.args.keeper.now in
    ap (λ (l : List (Option ℕ)). slice_get l p.0) (ap (λ l. l.items) c.look-ended.ensures.kept.3)
    ∙ pairs_current keeper.current.items c.args.names.now i p (ap (λ (l : List (ℕ × ℕ)). slice_get l i) (sym c.in-Ok.ensures.places) ∙ at)

pub returns-clause-recorded : goal.returns-clause-recorded
returns-clause-recorded g c h named =
    let keeper = c.args.keeper.now in
    let v = keeper.seat.me.0 in
    let names = c.args.names.now in
    let pairs = with_slots keeper.current.items names in
    let full = are_filled v keeper.ahead keeper.seen keeper.granted keeper.current.items keeper.last.items keeper.tracks pairs (pairs_current keeper.current.items names) in
    ap (λ (o : Option (Plan g.row.T.Denot)). recorded o h) c.hand_out.ensures.lease.3
    ∙ ((λ i. recorded (Some (plan_of c.args.frame (c.in-Ok.ensures.places i) (c.look-ended.ensures.looked i).contents)) h)
    ∙ lease_records v.contents keeper.current.items names c.requires.current c.args.frame full h named)

pub returns-clause-named : goal.returns-clause-named
returns-clause-named g c h named =
    let keeper = c.args.keeper.now in
    ap (λ (l : List (ℕ × ℕ)). is_some (slot_at h l)) (c.hand_out.ensures.lease.2 ∙ c.in-Ok.ensures.places)
    ∙ lease_names keeper.seat.me.0.contents keeper.current.items c.args.names.now c.requires.current h named
