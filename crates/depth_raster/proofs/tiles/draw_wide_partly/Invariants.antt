use Rattle.std.proofs.Common.{◌+◌}
use Rattle.depth_raster.specs.Edges.{AreValuesAt}
use Rattle.depth_raster.specs.Following.{SpanRelates}
use Rattle.depth_raster.specs.Spans.{becomes}
use Rattle.depth_raster.specs.Tiles.{mark_in, within, face_over}
use Rattle.depth_raster.proofs.tiles.draw_wide_partly.Given as goal

abbrev pub invariant-loop-q : goal.invariant-loop-q
invariant-loop-q l = record {
  drawn : SpanRelates l.block (mark_in l.block l.fn.marks) (mark_in l.block l.marks) (becomes (within l.block (face_over l.lens l.piece.face))) l.run.r l.run.start l.q;
  values : AreValuesAt l.face (l.block.left + l.q) (l.block.first + l.run.r) l.values;
}
