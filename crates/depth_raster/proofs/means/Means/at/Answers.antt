use Rattle.std.proofs.Common.{to_z, of_z, ◌∙◌, lit<, subst}
use mir.Syntax.{w128}
use Rattle.std.specs.Prelude.{ℤ}
use Rattle.fx_math.proofs.Size.{back}
use Rattle.span_shading.specs.Means.{IsMeanOf}
use Rattle.depth_raster.specs.Mixing.{change_of}
use Rattle.depth_raster.proofs.means.Means.at.Goals as goal

pub returns : goal.returns
returns c =
    let f = c.args.face.now in
    let px = c.args.px in
    let py = c.args.py in
    let w = c.weight_at-weight.result in
    let here = c.at-here in
    let step = c.steps-step in
    record {
      weight = c.weight_at-weight.ensures;
      red = subst (λ (z : ℤ). IsMeanOf z (change_of f 0) w c.new.result) (back w128 here.result.red_small (lit< tt) ∙ here.ensures.sums.red_is)
          (subst (λ (z : ℤ). IsMeanOf (to_z w128 (of_z w128 here.result.red)) z w c.new.result) (back w128 step.result.red_small (lit< tt) ∙ step.ensures.red_is) c.new.ensures.left);
      green = subst (λ (z : ℤ). IsMeanOf z (change_of f 1) w c.new-2.result) (back w128 here.result.green_small (lit< tt) ∙ here.ensures.sums.green_is)
          (subst (λ (z : ℤ). IsMeanOf (to_z w128 (of_z w128 here.result.green)) z w c.new-2.result) (back w128 step.result.green_small (lit< tt) ∙ step.ensures.green_is) c.new-2.ensures.left);
      blue = subst (λ (z : ℤ). IsMeanOf z (change_of f 2) w c.new-3.result) (back w128 here.result.blue_small (lit< tt) ∙ here.ensures.sums.blue_is)
          (subst (λ (z : ℤ). IsMeanOf (to_z w128 (of_z w128 here.result.blue)) z w c.new-3.result) (back w128 step.result.blue_small (lit< tt) ∙ step.ensures.blue_is) c.new-3.ensures.left);
      bytes = here.ensures.bytes;
    }
