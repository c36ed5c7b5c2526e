use Rattle.std.proofs.Common.{◌≡◌, ◌%◌, ◌<◌, [], length, ap, sym, subst, ◌∙◌, get_or}
use Rattle.ppm_out.specs.Pixmap.{Pixmap, pixel_in}
use Rattle.ppm_out.specs.Bands.{band_count, band_of, bytes_of_each}
use Rattle.ppm_out.proofs.InBands.{image_of, band_among, pixel_of_band}
use Rattle.ppm_out.proofs.image.Image.band.Goals as goal

pub returns : goal.returns
returns c =
    let i = c.self.inside in
    let k = c.args.i in
    let bands = bytes_of_each i.bands.items in
    let image = image_of i.width i.height bands in
    let within : k < band_count i.height = subst (λ (image : Pixmap). k < band_count image.height) (sym c.self.view_is) c.requires in
    let one : c.bytes_of.result.now ≡ get_or bands k [] =
    c.bytes_of.ensures ∙ ap (λ vectors. get_or (bytes_of_each vectors) k []) c.deref.ensures.value in
    let exact : c.bytes_of.result.now ≡ band_of image k =
    one ∙ sym (band_among i.width i.height bands k c.self.invariant.2 within) in
    rw (← c.self.view_is)
    (record {
      exact = exact;
      count = ap length one ∙ c.self.invariant.2.sizes k within;
      pixels = λ px py across below at. pixel_of_band image px py across below
          ∙ ap (λ j. pixel_in (band_of image j) i.width px (py % 16)) at
          ∙ ap (λ bytes. pixel_in bytes i.width px (py % 16)) (sym exact);
    })
