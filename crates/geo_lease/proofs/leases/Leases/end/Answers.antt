use Rattle.std.proofs.Common.{rules, sym, ap, ◌∙◌}
use Rattle.geo_lease.proofs.Rules.{learns, ends}
use Rattle.geo_lease.proofs.Swaps.{outline_some}
use Rattle.geo_lease.proofs.leases.Leases.end.Goals as goal

pub join_seat-requires : goal.join_seat-requires
join_seat-requires g c =
    let turn = c.args.turn.now in
    let lease = c.args.lease in
    (search rules, search rules, lease.lends.1, search rules, learns _ _ turn.seat.id lease.seat.id turn.seat.me.0 lease.seat.me.0 turn.rests.0)

pub fetch_add-requires : goal.fetch_add-requires
fetch_add-requires g c =
    let turn = c.args.turn.now in
    let lease = c.args.lease in
    let joined = ap (λ m. m.0) c.join_seat.ensures.2 in
    let some_plan = outline_some lease.seat.me.0.plan (lease.frame, lease.places.items) lease.outlined in (
      search rules,
      search rules,
      ends _ _ _ c.join_seat.new.seat.id c.join_seat.new.seat.me some_plan.0 (ap (λ v. v.role) joined ∙ turn.rests.0) (ap (λ v. v.held) joined ∙ turn.rests.1)
          (ap (λ v. v.out) joined ∙ c.requires.returned)
          (ap (λ v. v.number) joined ∙ (lease.lends.2 ∙ (c.requires.next ∙ sym (ap (λ v. v.next) joined))))
          (ap (λ v. v.plan) joined ∙ some_plan.1),
    )
