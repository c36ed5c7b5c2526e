use Rattle.std.proofs.Common.{◌≡◌, ◌<◌, ◌++◌, ap, sym, ◌∙◌, arith, take, length, length-append, append_assoc, append-nil}
use Rattle.ppm_out.specs.Bands.{band_count, band_start, band_of}
use Rattle.ppm_out.proofs.InBands.{next_band, all_bands, band_fits}
use Rattle.ppm_out.proofs.ppm.append_bands.Goals as goal

pub loop-i-init : goal.loop-i-init
loop-i-init c =
    let out = c.args.out.now.items in
    let none : band_start c.args.image.now.width 0 ≡ 0 = grind arith in
    record {
      items = sym (ap (λ n. out ++ take n c.args.image.now.bytes) none ∙ append-nil out);
      room = search;
    }

pub append_within-requires : goal.append_within-requires
append_within-requires c =
    let image = c.args.image.now in
    let k = c.loop-i.i in
    let within : k < band_count image.height = omega arith in
    let above = take (band_start image.width k) image.bytes in
    let fits = band_fits image k c.bands-i-end.ensures.whole within in
    let so_far = ap length c.loop-i.invariant.items in
    let parts = length-append c.args.out.now.items above in
    let band = ap length c.band.ensures.exact in
    omega (arith, fits, so_far, parts, band, c.loop-i.out.ok.0, c.args.out.now.ok.0, c.loop-i.invariant.room, c.requires)

pub loop-i-preserved : goal.loop-i-preserved
loop-i-preserved c =
    let image = c.args.image.now in
    let k = c.loop-i.i in
    let within : k < band_count image.height = omega arith in
    let out = c.args.out.now.items in
    let above = take (band_start image.width k) image.bytes in
    record {
      items = c.append_within.ensures.items ∙ ap (λ bytes. bytes ++ c.band.result.now) c.loop-i.invariant.items
          ∙ ap (λ bytes. (out ++ above) ++ bytes) c.band.ensures.exact
          ∙ append_assoc out above (band_of image k)
          ∙ ap (λ bytes. out ++ bytes) (sym (next_band image k c.bands-i-end.ensures.whole within));
      room = omega (arith, c.append_within.ensures.room, c.loop-i.invariant.room);
    }

pub returns : goal.returns
returns c =
    let image = c.args.image.now in
    let end : c.loop-i.i ≡ band_count image.height = omega arith in
    let out = c.args.out.now.items in
    record {
      items = c.loop-i.invariant.items ∙ ap (λ k. out ++ take (band_start image.width k) image.bytes) end
          ∙ ap (λ bytes. out ++ bytes) (all_bands image c.bands-i-end.ensures.whole);
      room = c.loop-i.invariant.room;
    }
