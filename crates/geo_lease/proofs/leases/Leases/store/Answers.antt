use Rattle.std.proofs.Common.{set, Some, sym, ap, ◌∙◌, subst}
use Rattle.geo_lease.specs.declared.view.View.{View}
use Rattle.geo_lease.specs.Plans.{current_content}
use Rattle.geo_lease.specs.Calls.{Tracks}
use Rattle.geo_lease.proofs.Tracking.{stored_tracks}
use Rattle.geo_lease.proofs.Granting.{chosen_inside, chosen_width, stored_content, stored_others}
use Rattle.geo_lease.proofs.leases.Leases.store.Goals as goal

pub invariant_of-keeper : goal.invariant_of-keeper
invariant_of-keeper g c =
    let keeper = c.args.keeper.now in
    let v = keeper.seat.me.0 in
    let k = c.choose-slot.result in
    let laid = c.swap_free-found.ensures.laid in
    let inside = chosen_inside v keeper.ahead keeper.seen keeper.granted keeper.current.items keeper.last.items keeper.tracks c.from.result k c.choose-slot.ensures in
    let width = chosen_width v keeper.ahead keeper.seen keeper.granted keeper.current.items keeper.last.items keeper.tracks c.from.result k c.choose-slot.ensures in
    record {
      rests = (ap (λ m. m.0.role) laid ∙ keeper.rests.0, ap (λ m. m.0.held) laid, ap (λ m. m.1) laid);
      tracks = subst (λ (u : View g.row.T.Denot). Tracks u keeper.ahead keeper.seen keeper.granted (set keeper.current.items c.from-2.result (Some k)) keeper.last.items) (sym (ap (λ m. m.0) laid))
          (stored_tracks v keeper.ahead keeper.seen keeper.granted keeper.current.items keeper.last.items keeper.tracks c.from-2.result k c.args.content inside (width ∙ (c.from.ensures ∙ sym c.from-2.ensures)));
    }

pub returns-clause-content : goal.returns-clause-content
returns-clause-content g c =
    let keeper = c.args.keeper.now in
    let v = keeper.seat.me.0 in
    let k = c.choose-slot.result in
    let contents = ap (λ m. m.0.contents) c.swap_free-found.ensures.laid in
    let inside = chosen_inside v keeper.ahead keeper.seen keeper.granted keeper.current.items keeper.last.items keeper.tracks c.from.result k c.choose-slot.ensures in
    (λ i. current_content (contents i) (set keeper.current.items (c.from-2.ensures i) (Some k)) c.args.geode)
    ∙ stored_content v keeper.ahead keeper.seen keeper.granted keeper.current.items keeper.last.items keeper.tracks c.args.geode k c.args.content c.requires.geode inside

pub returns-clause-others : goal.returns-clause-others
returns-clause-others g c h apart =
    let keeper = c.args.keeper.now in
    let v = keeper.seat.me.0 in
    let k = c.choose-slot.result in
    let contents = ap (λ m. m.0.contents) c.swap_free-found.ensures.laid in
    let width = chosen_width v keeper.ahead keeper.seen keeper.granted keeper.current.items keeper.last.items keeper.tracks c.from.result k c.choose-slot.ensures in
    (λ i. current_content (contents i) (set keeper.current.items (c.from-2.ensures i) (Some k)) h)
    ∙ stored_others v keeper.ahead keeper.seen keeper.granted keeper.current.items keeper.last.items keeper.tracks c.args.geode k (Some c.args.content) (width ∙ c.from.ensures) h apart
