use Rattle.std.proofs.Common.{◌+◌}
use Rattle.depth_raster.specs.Blocks.{colour_in}
use Rattle.depth_raster.specs.Following.{SpanRelates}
use Rattle.depth_raster.specs.Means.{shaded_within}
use Rattle.depth_raster.specs.Shading.{IsSpanAt}
use Rattle.depth_raster.proofs.painting.paint_span.Given as goal

abbrev pub invariant-loop-q : goal.invariant-loop-q
invariant-loop-q l = record {
  painted : SpanRelates l.block (colour_in l.block l.fn.colours) (colour_in l.block l.colours) (shaded_within l.face l.block) l.run.r l.run.start l.q;
  span : IsSpanAt l.face (l.block.left + l.q) (l.block.first + l.run.r) l.span;
}
