use Rattle.std.proofs.Common.{◌≡◌, ℕ, ◌+◌, ◌*◌, List, Option, None, replicate, rules, sym, ap, subst}
use Rattle.geo_lease.specs.declared.view.View.{View}
use Rattle.geo_lease.specs.Calls.{Tracks}
use Rattle.geo_lease.specs.Views.{keeping, opener}
use Rattle.geo_lease.proofs.Rules.{parts}
use Rattle.geo_lease.proofs.Granting.{opened_tracks}
use Rattle.geo_lease.proofs.leases.Leases.new.Goals as goal

pub split_seat-turn-requires : goal.split_seat-turn-requires
split_seat-turn-requires g c =
    let seat = c.in_ok-table.seat in
    (search rules, search rules, parts _ _ seat.id seat.me.0 (ap (λ m. m.0.role) c.in_ok-table.ensures.4))

pub invariant_of-keeper : goal.invariant_of-keeper
invariant_of-keeper g c =
    let geodes = c.args.geodes in
    let ahead = c.args.ahead in
    let view : c.split_seat-turn.new.seat.me.0 ≡ keeping (opener ahead (geodes * (ahead + 1))) = search rules in
    let current : c.in_ok-current.current.items ≡ replicate geodes None = search rules in
    let last : c.in_ok-last.last.items ≡ replicate (geodes * (ahead + 1)) 0 = search rules in
    record {
      rests = (search rules, search rules, search rules);
      tracks = subst (λ (z : View g.row.T.Denot × List (Option ℕ) × List ℕ). Tracks z.0 ahead 0 0 z.1 z.2) (λ i. (sym view i, sym current i, sym last i)) (opened_tracks geodes ahead);
    }
