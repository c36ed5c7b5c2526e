use Rattle.depth_raster.proofs.Owing.{marks_long}
use Rattle.depth_raster.proofs.Readied.{behind_glazed, face_behind}
use Rattle.depth_raster.proofs.glass_tiles.glaze_face.Goals as goal

pub returns-then-is_hidden : goal.returns-then-is_hidden
returns-then-is_hidden c =
    let a = c.args in
    let t = a.tile.now in
    behind_glazed a.lens.now a.piece.now.face t t.topped (marks_long t)
    (face_behind a.lens.now a.piece.now a.face.now t.block t.top c.limit.result c.requires.ready c.requires.face c.requires.block c.limit.ensures.value (c.is_hidden.ensures c.if-is_hidden.true))
