use Rattle.depth_raster.specs.Following.{RowsFollow}
use Rattle.depth_raster.specs.Tiles.{mark_in, within, face_over}
use Rattle.depth_raster.proofs.tiles.draw_marks.Given as goal

abbrev pub invariant-loop-r : goal.invariant-loop-r
invariant-loop-r l = RowsFollow l.block (mark_in l.block l.initial.marks) (mark_in l.block l.marks) (within l.block (face_over l.lens l.piece.face)) l.r
