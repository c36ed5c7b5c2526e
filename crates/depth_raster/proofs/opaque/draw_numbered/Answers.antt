use Rattle.std.proofs.Common.{◌∙◌}
use Rattle.std.specs.List.{slice_get}
use Rattle.draw_list.specs.Items.{instance_of_item}
use Rattle.draw_list.specs.Lists.{instances_in}
use Rattle.depth_raster.specs.Canvas.{drawn_after}
use Rattle.depth_raster.proofs.Items.{opaque_absent, opaque_some}
use Rattle.depth_raster.proofs.Listed.{item_listed, item_absent}
use Rattle.depth_raster.proofs.opaque.draw_numbered.Goals as goal

pub returns-in-Some-clause-drawn : goal.returns-in-Some-clause-drawn
returns-in-Some-clause-drawn g c = λ px py column row.
    let a = c.args in
    let d = a.list.now in
    c.draw_if_opaque.ensures.drawn px py column row
    ∙ opaque_some a.lens.now (instance_of_item d.joints.lists d.kept.tris c.in-Some.item.now) (slice_get (instances_in d) a.number) px py
    (drawn_after a.list.now a.lens.now a.batch.now.is_first a.strips.now.items a.batch.now.pieces a.batch.now.waiting.items px py) (item_listed d a.number c.in-Some.item.now c.in-Some.ensures.value)

pub returns-in-None-clause-drawn : goal.returns-in-None-clause-drawn
returns-in-None-clause-drawn g c = λ px py column row.
    let a = c.args in
    opaque_absent a.lens.now (slice_get (instances_in a.list.now) a.number) px py (drawn_after a.list.now a.lens.now a.batch.now.is_first a.strips.now.items a.batch.now.pieces a.batch.now.waiting.items px py)
    (item_absent a.list.now a.number c.in-None.ensures.value)
