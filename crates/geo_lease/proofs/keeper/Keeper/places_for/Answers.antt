use Rattle.std.proofs.Common.{◌≡◌, ◌<◌, ℕ, ◌+◌, List, [], ◌∷◌, ◌++◌, length, get_or, drop, Option, Some, refl, sym, ap, ◌∙◌, append_assoc}
use Rattle.std.specs.Prelude.{slice_get}
use Rattle.std.proofs.lemmas.List.{at_drop_more}
use Rattle.std.proofs.lemmas.Option.{slice_get_read, slice_get_within}
use Rattle.geo_lease.specs.Plans.{with_slots}
use Rattle.geo_lease.proofs.Granting.{has_slot, with_more}
use Rattle.geo_lease.proofs.keeper.Keeper.places_for.Goals as goal

pub loop-name-preserved : goal.loop-name-preserved
loop-name-preserved g c =
    let keeper = c.args.self.now in
    let current = keeper.current.items in
    let names = c.args.names.now in
    let i = c.loop-name.name-index in
    let name : ℕ = get_or names i 0 in
    let lt : i < length names = c.loop-name-test.true in
    let slot = has_slot keeper.seat.me.0.contents (slice_get current name) (c.requires i 0 lt) in
    let inside : name < length current = slice_get_within current name (Some slot.0) slot.1 in
    let read = c.index.ensures ∙ ap (λ (n : ℕ). get_or current n c.index.result.now) c.from.ensures in
    let at : slice_get current name ≡ Some (Some c.in-Some.slot) =
    slice_get_read current (length current) name c.index.result.now refl inside read ∙ ap (λ (o : Option ℕ). Some o) c.in-Some.is in
    let step = at_drop_more (with_slots current) names i 0 lt in
    let more = with_more current name c.in-Some.slot (drop (i + 1) names) at in
    let before = c.loop-name.places.items in
    let rest = with_slots current (drop (i + 1) names) in
    ap (λ (l : List (ℕ × ℕ)). l ++ rest) c.in_ok-push.ensures.items
    ∙ (append_assoc before ((name, c.in-Some.slot) ∷ []) rest ∙ (ap (λ (l : List (ℕ × ℕ)). before ++ l) (sym more ∙ sym step) ∙ c.loop-name.invariant))
