use Rattle.depth_raster.specs.Canvas.{face_glazed}
use Rattle.depth_raster.proofs.Glazed.{kept, glazed_then, pane_more}
use Rattle.depth_raster.proofs.glass.draw_face.Goals as goal

pub returns-clause-glass : goal.returns-clause-glass
returns-clause-glass g c =
    let a = c.args in
    let s = c.make_room.new.strips.items in
    let ps = c.make_room.new.batch.pieces in
    glazed_then a.lens.now a.strips.now.items s s a.batch.now.pieces ps c.push.new.self.pieces kept (face_glazed a.lens.now a.face) c.make_room.ensures.glass
    (pane_more a.lens.now s a.face ps c.push.new.self.pieces c.push.ensures.pieces)
