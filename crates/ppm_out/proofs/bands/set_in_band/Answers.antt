use Rattle.std.proofs.Common.{List, ℕ, [], ap, sym, ◌∙◌, set, get_or, slice_index}
use Rattle.std.specs.Vec.{with_items}
use Rattle.std.proofs.lemmas.List.{map-set, get_or-map, with_items_is}
use Rattle.ppm_out.specs.Bands.{bytes_of_each}
use Rattle.ppm_out.proofs.InBands.{painted}
use Rattle.ppm_out.proofs.bands.set_in_band.Goals as goal

pub returns : goal.returns
returns c =
    let bands = c.args.bands.now in
    let i = c.args.i in
    let colour = c.args.colour in
    let band = get_or bands i c.index-bands-i.result in
    let new = c.set_three.new.bytes in
    let write : List ℕ → List ℕ = λ bytes. painted bytes c.args.place (slice_index colour 0) (slice_index colour 1) (slice_index colour 2) in
    let kept = c.set_three.auto.bytes ∙ c.deref_mut.ensures.len in
    map-set (λ v. v.items) bands i (with_items band new)
    ∙ ap (set (bytes_of_each bands) i)
    (with_items_is band new kept ∙ c.set_three.ensures ∙ ap write (c.deref_mut.ensures.value ∙ sym (get_or-map (λ v. v.items) bands i c.index-bands-i.result [] c.requires.band)))
