use Rattle.std.specs.List.{slice_get}
use Rattle.std.specs.Option.{option_to_list}
use Rattle.draw_list.specs.Items.{instance_of_item}
use Rattle.draw_list.specs.Lists.{instances_in}
use Rattle.depth_raster.specs.Canvas.{instance_glazed, glass_glazed}
use Rattle.depth_raster.proofs.Glazed.{kept, nothing_glazed, glazed_alike}
use Rattle.depth_raster.proofs.Listed.{item_listed, item_absent}
use Rattle.depth_raster.proofs.PanesLeft.{glazes_one, glazes_absent}
use Rattle.depth_raster.proofs.glass.draw_pane.Goals as goal

pub returns-in-Some-clause-glass : goal.returns-in-Some-clause-glass
returns-in-Some-clause-glass g c =
    let a = c.args in
    let d = a.list.now in
    let x = instance_of_item d.joints.lists d.kept.tris c.in-Some.item.now in
    glazed_alike a.lens.now a.strips.now.items c.draw_item.new.strips.items a.batch.now.pieces c.draw_item.new.batch.pieces
    (instance_glazed a.lens.now x) (glass_glazed a.lens.now (option_to_list (slice_get (instances_in d) a.number)))
    (λ b px py u. glazes_one a.lens.now b x (slice_get (instances_in d) a.number) px py u (item_listed d a.number c.in-Some.item.now c.in-Some.ensures.value))
    c.draw_item.ensures.glass

pub returns-in-None-clause-glass : goal.returns-in-None-clause-glass
returns-in-None-clause-glass g c =
    let a = c.args in
    let d = a.list.now in
    glazed_alike a.lens.now a.strips.now.items a.strips.now.items a.batch.now.pieces a.batch.now.pieces
    kept (glass_glazed a.lens.now (option_to_list (slice_get (instances_in d) a.number)))
    (λ b px py u. glazes_absent a.lens.now b (slice_get (instances_in d) a.number) px py u (item_absent d a.number c.in-None.ensures.value))
    (nothing_glazed a.lens.now a.strips.now.items a.batch.now.pieces)
