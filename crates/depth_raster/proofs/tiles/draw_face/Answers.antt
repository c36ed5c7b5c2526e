use Rattle.std.proofs.Common.{arith}
use Rattle.depth_raster.proofs.Owing.{marks_long}
use Rattle.depth_raster.proofs.Later.{face_from}
use Rattle.depth_raster.proofs.Parted.{part_columns, part_rows, hidden_in}
use Rattle.depth_raster.proofs.Readied.{behind_marked, face_behind}
use Rattle.depth_raster.proofs.tiles.draw_face.Goals as goal

pub is_hidden-requires-clause-columns : goal.is_hidden-requires-clause-columns
is_hidden-requires-clause-columns c = let a = c.args in part_columns a.piece.now.extent a.tile.now.block c.part_in-part.result 1024 c.part_in-part.ensures (omega (arith, c.requires.block.columns, a.lens.now.in_range.most_width))

pub is_hidden-requires-clause-rows : goal.is_hidden-requires-clause-rows
is_hidden-requires-clause-rows c = let a = c.args in part_rows a.piece.now.extent a.tile.now.block c.part_in-part.result 1024 c.part_in-part.ensures (omega (arith, c.requires.block.rows, a.lens.now.in_range.most_height))

pub is_beyond-requires-clause-columns : goal.is_beyond-requires-clause-columns
is_beyond-requires-clause-columns c = let a = c.args in part_columns a.piece.now.extent a.tile.now.block c.part_in-part.result 1024 c.part_in-part.ensures (omega (arith, c.requires.block.columns, a.lens.now.in_range.most_width))

pub is_beyond-requires-clause-rows : goal.is_beyond-requires-clause-rows
is_beyond-requires-clause-rows c = let a = c.args in part_rows a.piece.now.extent a.tile.now.block c.part_in-part.result 1024 c.part_in-part.ensures (omega (arith, c.requires.block.rows, a.lens.now.in_range.most_height))

pub returns-then-is_hidden : goal.returns-then-is_hidden
returns-then-is_hidden c =
    let a = c.args in
    let t = a.tile.now in
    behind_marked a.lens.now a.piece.now.face t t.topped (marks_long t)
    (face_behind a.lens.now a.piece.now a.face.now t.block t.top c.limit-limit.result c.requires.ready c.requires.face c.requires.block c.limit-limit.ensures.value (hidden_in a.lens.now a.piece.now a.face.now t.block c.part_in-part.result c.limit-limit.result c.requires.ready c.requires.face c.part_in-part.ensures (c.is_hidden.ensures c.if-is_hidden.true)))

pub draw_at_top-requires-clause-depth : goal.draw_at_top-requires-clause-depth
draw_at_top-requires-clause-depth c =
    let a = c.args in
    let t = a.tile.now in
    face_from a.lens.now a.piece.now a.face.now t.block t.top _ c.requires.ready c.requires.face c.requires.block (omega (arith, c.limit-limit.ensures.value)) (hidden_in a.lens.now a.piece.now a.face.now t.block c.part_in-part.result _ c.requires.ready c.requires.face c.part_in-part.ensures (c.is_beyond.ensures c.if-is_beyond.true))
