use Rattle.std.proofs.Common.{Option, option_map, ap, sym, ◌∙◌}
use Rattle.draw_list.specs.declared.items.Tint.{Tint}
use Rattle.draw_list.specs.Items.{instance_of_item}
use Rattle.depth_raster.specs.Canvas.{drawn_after}
use Rattle.depth_raster.proofs.Items.{opaque_one, opaque_glass}
use Rattle.depth_raster.proofs.opaque.draw_if_opaque.Goals as goal

pub returns-in-None-clause-drawn : goal.returns-in-None-clause-drawn
returns-in-None-clause-drawn g c = λ px py column row.
    let a = c.args in
    let x = instance_of_item a.list.now.joints.lists a.list.now.kept.tris a.item.now in
    c.draw_item.ensures.drawn px py column row
    ∙ sym (opaque_one a.lens.now x px py (drawn_after a.list.now a.lens.now a.batch.now.is_first a.strips.now.items a.batch.now.pieces a.batch.now.waiting.items px py) (ap (λ (o : Option Tint). option_map (λ t. t.alpha) o) c.in-None.is))

pub returns-in-Some-clause-drawn : goal.returns-in-Some-clause-drawn
returns-in-Some-clause-drawn g c = λ px py column row.
    let a = c.args in
    let x = instance_of_item a.list.now.joints.lists a.list.now.kept.tris a.item.now in
    sym (opaque_glass a.lens.now x px py (drawn_after a.list.now a.lens.now a.batch.now.is_first a.strips.now.items a.batch.now.pieces a.batch.now.waiting.items px py) c.in-Some._tint.alpha (ap (λ (o : Option Tint). option_map (λ t. t.alpha) o) c.in-Some.is))
