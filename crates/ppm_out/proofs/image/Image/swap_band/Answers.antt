use Rattle.std.proofs.Common.{◌≡◌, ◌<◌, [], refl, ap, sym, subst, ◌∙◌, get_or, set, length}
use Rattle.std.specs.Vec.{with_items}
use Rattle.std.proofs.lemmas.List.{with_items_is}
use Rattle.ppm_out.specs.Pixmap.{Pixmap}
use Rattle.ppm_out.specs.Bands.{band_count, band_size, band_of, bytes_of_each}
use Rattle.ppm_out.proofs.InBands.{image_of, band_among, set_stays, set_one, set_others, pixel_of_band}
use Rattle.ppm_out.proofs.image.Image.swap_band.Goals as goal

pub invariant_of-self : goal.invariant_of-self
invariant_of-self c =
    let i = c.self.inside in
    let k = c.args.i in
    let rows = c.args.rows.now.items in
    let bands = bytes_of_each i.bands.items in
    let new = (with_items i.bands c.exchange.new.bands).items in
    let within : k < band_count i.height = subst (λ (image : Pixmap). k < band_count image.height) (sym c.self.view_is) c.requires.within in
    let size : length rows ≡ band_size i.width i.height k =
    subst (λ (image : Pixmap). length rows ≡ band_size image.width image.height k) (sym c.self.view_is) c.requires.size in
    let after : bytes_of_each new ≡ set bands k rows =
    ap bytes_of_each (with_items_is i.bands c.exchange.new.bands (c.exchange.auto.bands ∙ c.deref_mut.ensures.len))
    ∙ c.exchange.ensures.bands ∙ ap (λ vectors. set (bytes_of_each vectors) k rows) c.deref_mut.ensures.value in
    set_stays i.width i.height bands (bytes_of_each new) k rows i.header.items after c.self.invariant within size

pub returns : goal.returns
returns c =
    let i = c.self.inside in
    let k = c.args.i in
    let rows = c.args.rows.now.items in
    let bands = bytes_of_each i.bands.items in
    let new = (with_items i.bands c.exchange.new.bands).items in
    let within : k < band_count i.height = subst (λ (image : Pixmap). k < band_count image.height) (sym c.self.view_is) c.requires.within in
    let size : length rows ≡ band_size i.width i.height k =
    subst (λ (image : Pixmap). length rows ≡ band_size image.width image.height k) (sym c.self.view_is) c.requires.size in
    let after : bytes_of_each new ≡ set bands k rows =
    ap bytes_of_each (with_items_is i.bands c.exchange.new.bands (c.exchange.auto.bands ∙ c.deref_mut.ensures.len))
    ∙ c.exchange.ensures.bands ∙ ap (λ vectors. set (bytes_of_each vectors) k rows) c.deref_mut.ensures.value in
    let image = image_of i.width i.height (bytes_of_each new) in
    rw (← c.self.view_is)
    (record {
      width = refl;
      height = refl;
      band = ap (λ bs. band_of (image_of i.width i.height bs) k) after
          ∙ set_one i.width i.height bands k rows c.self.invariant.2 within size;
      others = λ j below differ. ap (λ bs. band_of (image_of i.width i.height bs) j) after
          ∙ set_others i.width i.height bands k rows c.self.invariant.2 within size j below differ;
      back = c.exchange.ensures.back ∙ ap (λ vectors. get_or (bytes_of_each vectors) k []) c.deref_mut.ensures.value
          ∙ sym (band_among i.width i.height bands k c.self.invariant.2 within);
      count = ap length (c.exchange.ensures.back ∙ ap (λ vectors. get_or (bytes_of_each vectors) k []) c.deref_mut.ensures.value)
          ∙ c.self.invariant.2.sizes k within ∙ sym size;
      pixels = λ px py across below. pixel_of_band image px py across below;
      whole = (set_stays i.width i.height bands (bytes_of_each new) k rows i.header.items after c.self.invariant within size).0;
    })
