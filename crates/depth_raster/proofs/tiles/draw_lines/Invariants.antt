use Rattle.std.proofs.Common.{◌+◌, ◌-◌}
use Rattle.depth_raster.specs.Following.{RowsFollow}
use Rattle.depth_raster.specs.Narrow.{IsLineAt}
use Rattle.depth_raster.specs.Tiles.{mark_in, within, face_over}
use Rattle.depth_raster.proofs.tiles.draw_lines.Given as goal

abbrev pub invariant-loop-r : goal.invariant-loop-r
invariant-loop-r l = record {
  drawn : RowsFollow l.block (mark_in l.block l.fn.marks) (mark_in l.block l.marks) (within l.block (face_over l.lens l.piece.face)) l.r;
  line : IsLineAt l.face (l.block.left + l.start) (l.block.left + (l.end - 1)) (l.block.first + l.r) l.line;
}
