use Rattle.depth_raster.specs.Blocks.{colour_in}
use Rattle.depth_raster.specs.Following.{SpanRelates}
use Rattle.depth_raster.specs.Tiles.{kept_within}
use Rattle.depth_raster.proofs.painting.paint_old.Given as goal

abbrev pub invariant-loop-q : goal.invariant-loop-q
invariant-loop-q l = SpanRelates l.block (colour_in l.block l.fn.colours) (colour_in l.block l.colours) (kept_within l.back l.block l.marks) l.run.r l.run.start l.q
