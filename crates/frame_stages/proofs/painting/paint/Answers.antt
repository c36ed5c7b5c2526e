use Rattle.std.proofs.Common.{◌≡◌, ◌∙◌, ℕ, List, length, ap, subst, arith}
use Rattle.std.specs.List.{flat_map}
use Rattle.fx_math.specs.declared.lenses.Lens.{Lens}
use Rattle.ppm_out.specs.Ppm.{ppm_bytes}
use Rattle.draw_list.specs.Lists.{Drawables}
use Rattle.stage_parts.specs.Loads.{LoadState, IsOfSize}
use Rattle.frame_stages.specs.Painting.{IsPainted, ArePaintedTo}
use Rattle.frame_stages.proofs.Painted.{painted_more, load_drawn}
use Rattle.frame_stages.proofs.painting.paint.Goals as goal

pub loop-channel-preserved : goal.loop-channel-preserved
loop-channel-preserved g c =
    let old = c.args.load.now in
    let l = c.loop-channel in
    let new = c.paint_channel.new in
    let done = c.paint_channel.ensures in
    record {
      raster = done.raster ∙ l.invariant.raster;
      size = subst (λ (lens : Lens). IsOfSize lens new.image) l.invariant.raster done.size;
      load = done.load ∙ ap (λ (x : LoadState). record x { images = new.load.images }) l.invariant.load;
      drawn =
          painted_more c.args.raster.now c.args.back old.lists l.channel old.images l.load.images new.load.images l.invariant.drawn
          (subst (λ (lists : List Drawables). IsPainted c.args.raster.now c.args.back lists l.channel l.load.images new.load.images)
          (ap (λ (x : LoadState). x.lists) l.invariant.load)
          (subst (λ (lens : Lens). IsPainted lens c.args.back l.load.lists l.channel l.load.images new.load.images) l.invariant.raster
          done.painted));
    }

pub returns-clause-draws : goal.returns-clause-draws
returns-clause-draws g c =
    let old = c.args.load.now in
    let l = c.loop-channel in
    let all : l.channel ≡ length old.lists = omega (arith, ap length c.lists-channel-end.ensures) in
    load_drawn c.args.raster.now c.args.back old c.write_bytes.new.self l.load.images
    (subst (λ (n : ℕ). ArePaintedTo c.args.raster.now c.args.back old.lists n old.images l.load.images) all l.invariant.drawn)
    (c.write_bytes.ensures ∙ ap (λ (x : LoadState). record x { bytes = flat_map ppm_bytes l.load.images }) l.invariant.load)
