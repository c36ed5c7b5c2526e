use Rattle.std.proofs.Common.{rules, ◌≡◌, ◌/◌, ◌%◌, ◌<◌, ◌∙◌, ℕ, List, [], ◌∷◌, ap, sym, subst, length, set, get_or, slice_index}
use Rattle.std.specs.Vec.{with_items}
use Rattle.std.proofs.lemmas.List.{with_items_is}
use Rattle.ppm_out.specs.Pixmap.{Pixmap, SetsPixel, place_of}
use Rattle.ppm_out.specs.Bands.{bytes_of_each}
use Rattle.ppm_out.proofs.InBands.{painted, image_of, place_inside, length-painted, set_stays, sets_in_band}
use Rattle.ppm_out.proofs.Pictures.{colour_of_three}
use Rattle.ppm_out.proofs.image.Image.set.Goals as goal

pub invariant_of-self : goal.invariant_of-self
invariant_of-self c =
    let i = c.self.inside in
    let colour = c.args.colour in
    let px = c.args.px in
    let py = c.args.py in
    let k = py / 16 in
    let bands = bytes_of_each i.bands.items in
    let new = (with_items i.bands c.set_in_band.new.bands).items in
    let write : ℕ → List ℕ → List ℕ = λ p bytes. painted bytes p (slice_index colour 0) (slice_index colour 1) (slice_index colour 2) in
    let across : px < i.width = subst (λ (image : Pixmap). px < image.width) (sym c.self.view_is) c.requires.column in
    let below : py < i.height = subst (λ (image : Pixmap). py < image.height) (sym c.self.view_is) c.requires.row in
    let place : c.place-place.result ≡ place_of i.width px (py % 16) =
    c.place-place.ensures.exact ∙ ap (λ (image : Pixmap). place_of image.width px (py % 16)) (sym c.self.view_is) in
    let rows = write (place_of i.width px (py % 16)) (get_or bands k []) in
    let after : bytes_of_each new ≡ set bands k rows =
    ap bytes_of_each (with_items_is i.bands c.set_in_band.new.bands (c.set_in_band.auto.bands ∙ c.deref_mut.ensures.len))
    ∙ c.set_in_band.ensures
    ∙ ap (λ vectors. set (bytes_of_each vectors) k (write c.place-place.result (get_or (bytes_of_each vectors) k []))) c.deref_mut.ensures.value
    ∙ ap (λ p. set bands k (write p (get_or bands k []))) place in
    let within = (place_inside i.width i.height px py across below).0 in
    let size = length-painted (get_or bands k []) (place_of i.width px (py % 16)) (slice_index colour 0) (slice_index colour 1) (slice_index colour 2)
    ∙ c.self.invariant.2.sizes k within in
    let stays = set_stays i.width i.height bands (bytes_of_each new) k rows i.header.items after c.self.invariant within size in
    stays

pub returns : goal.returns
returns c =
    let i = c.self.inside in
    let colour = c.args.colour in
    let px = c.args.px in
    let py = c.args.py in
    let k = py / 16 in
    let bands = bytes_of_each i.bands.items in
    let new = (with_items i.bands c.set_in_band.new.bands).items in
    let write : ℕ → List ℕ → List ℕ = λ p bytes. painted bytes p (slice_index colour 0) (slice_index colour 1) (slice_index colour 2) in
    let across : px < i.width = subst (λ (image : Pixmap). px < image.width) (sym c.self.view_is) c.requires.column in
    let below : py < i.height = subst (λ (image : Pixmap). py < image.height) (sym c.self.view_is) c.requires.row in
    let place : c.place-place.result ≡ place_of i.width px (py % 16) =
    c.place-place.ensures.exact ∙ ap (λ (image : Pixmap). place_of image.width px (py % 16)) (sym c.self.view_is) in
    let rows = write (place_of i.width px (py % 16)) (get_or bands k []) in
    let after : bytes_of_each new ≡ set bands k rows =
    ap bytes_of_each (with_items_is i.bands c.set_in_band.new.bands (c.set_in_band.auto.bands ∙ c.deref_mut.ensures.len))
    ∙ c.set_in_band.ensures
    ∙ ap (λ vectors. set (bytes_of_each vectors) k (write c.place-place.result (get_or (bytes_of_each vectors) k []))) c.deref_mut.ensures.value
    ∙ ap (λ p. set bands k (write p (get_or bands k []))) place in
    let within = (place_inside i.width i.height px py across below).0 in
    let size = length-painted (get_or bands k []) (place_of i.width px (py % 16)) (slice_index colour 0) (slice_index colour 1) (slice_index colour 2)
    ∙ c.self.invariant.2.sizes k within in
    let stays = set_stays i.width i.height bands (bytes_of_each new) k rows i.header.items after c.self.invariant within size in
    let long : length colour ≡ 3 = search rules in
    let sets = sets_in_band i.width i.height bands px py
    (slice_index colour 0) (slice_index colour 1) (slice_index colour 2) c.self.invariant.0 c.self.invariant.2 across below in
    record {
      pixel = rw (colour_of_three colour long, ← c.self.view_is)
          (subst (λ (bs : List (List ℕ)). SetsPixel (image_of i.width i.height bands) (image_of i.width i.height bs) px py
          (slice_index colour 0 ∷ slice_index colour 1 ∷ slice_index colour 2 ∷ [])) (sym after) sets);
      whole = stays.0;
    }
