use Rattle.std.proofs.Common.{◌≡◌, ◌<◌, ◌≤◌, ℕ, get_or, List, Option, None, refl, sym, ap, ◌∙◌, subst, arith}
use Rattle.std.specs.Prelude.{slice_get}
use Rattle.geo_lease.specs.declared.view.View.{View}
use Rattle.geo_lease.specs.Plans.{IsFree, current_content}
use Rattle.geo_lease.specs.Views.{laying}
use Rattle.geo_lease.specs.Calls.{Tracks, IsIdle}
use Rattle.geo_lease.proofs.Tracking.{emptied_tracks}
use Rattle.geo_lease.proofs.Granting.{emptied_content, reclaimed}
use Rattle.geo_lease.proofs.leases.Leases.reclaim.Goals.{else-is_idle-via-then-is_idle+else-is_free, else-is_idle-via-else-is_idle}
use Rattle.geo_lease.proofs.leases.Leases.reclaim.Goals as goal

pub swap_free-requires-clause-free : goal.swap_free-requires-clause-free
swap_free-requires-clause-free g c =
    let keeper = c.look.new.keeper in
    let t = keeper.tracks in
    let le : get_or keeper.last.items c.args.slot 0 ≤ keeper.seen = c.if-is_free.ensures in
    let same : keeper.seat.me.0.seen ≡ keeper.seen = t.seen_is in
    t.free_after c.args.slot keeper.seat.me.0.seen (omega arith)

pub invariant_of-keeper : goal.invariant_of-keeper
invariant_of-keeper g c =
    let keeper = c.look.new.keeper in
    let laid = c.swap_free.ensures.laid in
    let idle : IsIdle keeper.current.items c.args.slot = c.if-is_idle.ensures.0 refl in
    record {
      rests = (ap (λ m. m.0.role) laid ∙ keeper.rests.0, ap (λ m. m.0.held) laid, ap (λ m. m.1) laid);
      tracks = subst (λ (u : View g.row.T.Denot). Tracks u keeper.ahead keeper.seen keeper.granted keeper.current.items keeper.last.items) (sym (ap (λ m. m.0) laid))
          (emptied_tracks keeper.seat.me.0 keeper.ahead keeper.seen keeper.granted keeper.current.items keeper.last.items keeper.tracks c.args.slot idle);
    }

pub returns-then-is_free-clause-reclaimed : goal.returns-then-is_free-clause-reclaimed
returns-then-is_free-clause-reclaimed g c =
    let keeper = c.look.new.keeper in
    let v = c.args.keeper.now.seat.me.0 in
    let t = keeper.tracks in
    let e = c.look.result in
    let looked = c.look.ensures.looked in
    let le : get_or keeper.last.items c.args.slot 0 ≤ keeper.seen = c.if-is_free.ensures in
    let seen : keeper.seat.me.0.seen ≡ keeper.seen = t.seen_is in
    let free : IsFree keeper.seat.me.0.leases keeper.seat.me.0.seen c.args.slot = t.free_after c.args.slot keeper.seat.me.0.seen (omega arith) in
    let idle : IsIdle keeper.current.items c.args.slot = c.if-is_idle.ensures.0 refl in (
      e,
      reclaimed v c.swap_free.new.seat.me.0 c.args.keeper.now.current.items c.args.slot e c.swap_free.result c.args.keeper.now.rests.1
          (ap (λ m. m.0) c.swap_free.ensures.laid ∙ ap (λ (u : View g.row.T.Denot). laying u c.args.slot None) looked)
          (subst (λ (l : List (Option ℕ)). IsIdle l c.args.slot) (ap (λ l. l.items) c.look.ensures.kept.3) idle)
          (subst (λ (u : View g.row.T.Denot). IsFree u.leases u.seen c.args.slot) looked free)
          (ap (λ (u : View g.row.T.Denot). slice_get u.contents c.args.slot) (sym looked) ∙ c.swap_free.ensures.found),
    )

pub returns-then-is_free-clause-contents : goal.returns-then-is_free-clause-contents
returns-then-is_free-clause-contents g c h =
    let keeper = c.look.new.keeper in
    let idle : IsIdle keeper.current.items c.args.slot = c.if-is_idle.ensures.0 refl in
    ap (λ m. current_content m.0.contents keeper.current.items h) c.swap_free.ensures.laid
    ∙ (emptied_content keeper.seat.me.0 keeper.ahead keeper.seen keeper.granted keeper.current.items keeper.last.items keeper.tracks c.args.slot None idle h
    ∙ (λ i. current_content (c.look.ensures.looked i).contents (c.look.ensures.kept.3 i).items h))

pub returns-else-is_idle-clause-reclaimed : goal.returns-else-is_idle-clause-reclaimed
returns-else-is_idle-clause-reclaimed g c =
    let keeper = c.look.new.keeper in
    let t = keeper.tracks in
    let looked = c.look.ensures.looked in (
      c.look.result,
      (
        looked,
        λ idle free. absurd (elim c.else-is_idle.branch [
          | else-is_idle-via-then-is_idle+else-is_free w ↦
              (let lt : keeper.seen < get_or keeper.last.items c.args.slot 0 = w.if-is_free.ensures in
              let its : IsFree keeper.seat.me.0.leases keeper.seat.me.0.seen c.args.slot = subst (λ (u : View g.row.T.Denot). IsFree u.leases u.seen c.args.slot) (sym looked) free in
              let le : get_or keeper.last.items c.args.slot 0 ≤ keeper.seat.me.0.seen = t.last_before c.args.slot keeper.seat.me.0.seen its in
              let same : keeper.seat.me.0.seen ≡ keeper.seen = t.seen_is in
              omega arith)
          | else-is_idle-via-else-is_idle w ↦ cc (w.if-is_idle.ensures.1 (subst (λ (l : List (Option ℕ)). IsIdle l c.args.slot) (sym (ap (λ l. l.items) c.look.ensures.kept.3)) idle))
        ]),
      ),
    )
