use Rattle.std.proofs.Common.{rules, sym, ap, ◌∙◌, subst}
use Rattle.geo_lease.specs.declared.view.View.{View}
use Rattle.geo_lease.specs.Calls.{Tracks}
use Rattle.geo_lease.proofs.Rules.{sees}
use Rattle.geo_lease.proofs.Tracking.{looked_tracks}
use Rattle.geo_lease.proofs.leases.Leases.look.Goals as goal

pub load-ended-requires : goal.load-ended-requires
load-ended-requires g c =
    let keeper = c.args.keeper.now in
    (search rules, search rules, sees _ _ _ keeper.seat.id keeper.seat.me keeper.rests.0)

pub invariant_of-keeper : goal.invariant_of-keeper
invariant_of-keeper g c =
    let keeper = c.args.keeper.now in
    let told = c.load-ended.ensures.2 in
    let view = sym (ap (λ m. m.0) told.0) in
    record {
      rests = (sym (ap (λ v. v.role) view) ∙ keeper.rests.0, sym (ap (λ v. v.held) view) ∙ keeper.rests.1, ap (λ m. m.1) told.0 ∙ keeper.rests.2);
      tracks = subst (λ (v : View g.row.T.Denot). Tracks v keeper.ahead c.load-ended.result keeper.granted keeper.current.items keeper.last.items) view
          (looked_tracks keeper.seat.me.0 keeper.ahead keeper.seen keeper.granted keeper.current.items keeper.last.items keeper.tracks c.load-ended.result told.1 told.2);
    }
