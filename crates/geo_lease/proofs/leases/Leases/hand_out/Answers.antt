use Rattle.std.proofs.Common.{◌≡◌, ◌≤◌, ◌<◌, ℕ, ◌+◌, ◌^◌, List, length, Some, rules, sym, ap, ◌∙◌, subst, arith}
use Rattle.std.specs.Prelude.{slice_get}
use Rattle.geo_lease.specs.declared.view.Plan.{Plan}
use Rattle.geo_lease.specs.declared.view.View.{View}
use Rattle.geo_lease.specs.Plans.{HasPlace, outline}
use Rattle.geo_lease.specs.Views.{granting}
use Rattle.geo_lease.specs.Calls.{Tracks, marked}
use Rattle.geo_lease.proofs.Rules.{grants, lends}
use Rattle.geo_lease.proofs.Tracking.{names_only, granted_tracks, outlined, are_filled, whole, length-marked}
use Rattle.geo_lease.proofs.leases.Leases.hand_out.Goals as goal

pub fetch_add-keeper-requires : goal.fetch_add-keeper-requires
fetch_add-keeper-requires g c =
    let keeper = c.args.keeper.now in
    let v = keeper.seat.me.0 in
    let t = keeper.tracks in
    let l : Plan g.row.T.Denot = g.P.Planned.plan in
    let frame : l.frame ≡ c.args.frame = ap (λ (u : Plan g.row.T.Denot). u.frame) c.requires.picked in
    let room : length v.leases < v.seen + v.ahead = omega (arith, t.granted_is, t.seen_is, t.ahead_is, c.requires.room) in
    let rises : v.above ≤ l.frame = omega (arith, c.requires.frame) in
    let small : l.frame < 2 ^ 32 = omega arith in (
      search rules,
      search rules,
      grants _ _ _ keeper.seat.id keeper.seat.me l keeper.rests.0 keeper.rests.1 room rises small
          (λ k x place. (names_only c.args.frame v.contents c.args.places.items k x (subst (λ (u : Plan g.row.T.Denot). HasPlace u k x) c.requires.picked place)).1),
    )

pub split_seat-seat-requires : goal.split_seat-seat-requires
split_seat-seat-requires g c =
    let seat = c.fetch_add-keeper.new.seat in
    let told = c.fetch_add-keeper.ensures.2 in
    (search rules, search rules, lends _ _ seat.id seat.me.0 (λ o. absurd (cc (ap (λ m. m.0.role) told.1 ∙ c.args.keeper.now.rests.0, o))))

pub mark-requires : goal.mark-requires
mark-requires g c i p at =
    let keeper = c.args.keeper.now in
    let there : slice_get c.args.places.items i ≡ Some p = ap (λ (l : List (ℕ × ℕ)). slice_get l i) (sym c.as_slice.ensures.value) ∙ at in
    subst (λ (l : List ℕ). p.1 < length l) (sym c.as_mut_slice.ensures.value) (keeper.tracks.ranged p.0 p.1 (c.requires.current i p there)).0

pub invariant_of-keeper : goal.invariant_of-keeper
invariant_of-keeper g c =
    let keeper = c.args.keeper.now in
    let v = keeper.seat.me.0 in
    let pairs = c.args.places.items in
    let told = c.split_seat-seat.ensures.2 ∙ c.fetch_add-keeper.ensures.2.1 in
    let view = ap (λ m. m.0) told ∙ ap (granting v) c.requires.picked in
    let marks : c.mark.new.last ≡ marked keeper.last.items pairs (keeper.granted + 1) =
    c.mark.ensures ∙ (λ i. marked (c.as_mut_slice.ensures.value i) (c.as_slice.ensures.value i) (keeper.granted + 1)) in
    let long : length keeper.last.items ≡ keeper.last.len = search rules in
    let last = whole c.mark.new.last keeper.last.items keeper.last.len (ap length marks ∙ (length-marked keeper.last.items pairs (keeper.granted + 1) ∙ long)) long ∙ marks in
    record {
      rests = (ap (λ u. u.role) view ∙ keeper.rests.0, ap (λ u. u.held) view ∙ keeper.rests.1, ap (λ m. m.1) told ∙ keeper.rests.2);
      tracks = subst (λ (z : View g.row.T.Denot × List ℕ). Tracks z.0 keeper.ahead keeper.seen (keeper.granted + 1) keeper.current.items z.1)
          (λ i. (sym view i, sym last i))
          (granted_tracks v keeper.ahead keeper.seen keeper.granted keeper.current.items keeper.last.items keeper.tracks c.args.frame pairs c.requires.current c.requires.room c.requires.frame);
    }

pub invariant_of-result : goal.invariant_of-result
invariant_of-result g c =
    let keeper = c.args.keeper.now in
    let v = keeper.seat.me.0 in
    let pairs = c.args.places.items in
    let lent = c.split_seat-seat.ensures.4 in
    let told = c.fetch_add-keeper.ensures.2.1 in
    let plan = ap (λ m. m.0.plan) lent ∙ ap (λ m. m.0.plan) told in
    let full = are_filled v keeper.ahead keeper.seen keeper.granted keeper.current.items keeper.last.items keeper.tracks pairs c.requires.current in
    record {
      lends = (ap (λ m. m.0.role) lent, ap (λ m. m.1) lent, ap (λ m. m.0.number) lent ∙ (ap (λ m. m.0.number) told ∙ keeper.tracks.granted_is));
      outlined = ap outline plan ∙ (ap (λ (l : Plan g.row.T.Denot). outline (Some l)) c.requires.picked ∙ ap (λ (l : List (ℕ × ℕ)). Some (c.args.frame, l)) (outlined v.contents pairs full));
    }
