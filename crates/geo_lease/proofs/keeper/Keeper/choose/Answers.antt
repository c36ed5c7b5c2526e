use Rattle.std.proofs.Common.{◌≡◌, ◌<◌, ℕ, get_or, length, refl, Option, Some, sym, ap, ◌∙◌, subst}
use Rattle.std.specs.Prelude.{slice_get}
use Rattle.std.proofs.lemmas.Option.{same_Some, slice_get_read}
use Rattle.geo_lease.proofs.Granting.{chosen_again, chosen_lowest}
use Rattle.geo_lease.proofs.keeper.Keeper.choose.Goals.{in-Some+else-is_free, in_default}
use Rattle.geo_lease.proofs.keeper.Keeper.choose.Goals as goal

pub is_free-requires : goal.is_free-requires
is_free-requires g c =
    let keeper = c.args.self.now in
    let at : slice_get keeper.current.items c.args.geode ≡ Some c.index.result.now = slice_get_read keeper.current.items (length keeper.current.items) c.args.geode c.index.result.now refl c.requires c.index.ensures in
    (keeper.tracks.ranged c.args.geode c.in-Some.slot (at ∙ ap (λ (o : Option ℕ). Some o) c.in-Some.is)).0

pub returns-then-is_free : goal.returns-then-is_free
returns-then-is_free g c =
    let keeper = c.args.self.now in
    let at : slice_get keeper.current.items c.args.geode ≡ Some c.index.result.now = slice_get_read keeper.current.items (length keeper.current.items) c.args.geode c.index.result.now refl c.requires c.index.ensures in
    chosen_again keeper.seat.me.0 keeper.ahead keeper.seen keeper.granted keeper.current.items keeper.last.items keeper.tracks c.args.geode c.in-Some.slot (at ∙ ap (λ (o : Option ℕ). Some o) c.in-Some.is) c.if-is_free.ensures

pub returns : goal.returns
returns g c =
    let keeper = c.args.self.now in
    let at : slice_get keeper.current.items c.args.geode ≡ Some c.index.result.now = slice_get_read keeper.current.items (length keeper.current.items) c.args.geode c.index.result.now refl c.requires c.index.ensures in
    let low = c.lowest_free.ensures in
    let taken : (j : ℕ) → slice_get keeper.current.items c.args.geode ≡ Some (Some j) → keeper.seen < get_or keeper.last.items j 0 = λ j e.
    let its : c.index.result.now ≡ Some j = same_Some c.index.result.now (Some j) (sym at ∙ e) in
    elim c.match-index.branch [
      | in-Some+else-is_free w ↦ (let same : w.in-Some.slot ≡ j = same_Some w.in-Some.slot j (sym w.in-Some.is ∙ its) in subst (λ (k : ℕ). keeper.seen < get_or keeper.last.items k 0) same w.if-is_free.ensures)
      | in_default w ↦ absurd (w.in_default.not-Some j its)
    ]
    in
    chosen_lowest keeper.seat.me.0 keeper.ahead keeper.seen keeper.granted keeper.current.items keeper.last.items keeper.tracks c.args.geode c.lowest_free.result taken low.inside low.of_geode low.free low.lowest
