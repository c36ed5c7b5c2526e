use Rattle.std.proofs.lemmas.Option.{slice_get_read}
use Rattle.std.proofs.Common.{◌≡◌, ◌<◌, ◌≤◌, length, get_or, refl, sym, ◌∙◌, rules}
use Rattle.geo_lease.proofs.Swaps.{name_some, name_none}
use Rattle.geo_lease.proofs.lease.Lease.name.Goals as goal

pub returns-in_err-place : goal.returns-in_err-place
returns-in_err-place g c =
    let pairs = c.args.self.now.places.items in
    let past : length pairs ≤ c.args.index = search rules in
    c.from_residual.ensures ∙ sym (name_none pairs c.args.index past)

pub returns : goal.returns
returns g c =
    let pairs = c.args.self.now.places.items in
    let place = c.in_ok-place.place.now in
    let inside : c.args.index < length pairs = search rules in
    let is : place ≡ get_or pairs c.args.index place = search rules in
    sym (name_some pairs c.args.index place (slice_get_read pairs (length pairs) c.args.index place refl inside is))
