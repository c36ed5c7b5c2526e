use Rattle.depth_raster.specs.Blocks.{colour_in}
use Rattle.depth_raster.specs.Following.{SpanRelates}
use Rattle.depth_raster.specs.Means.{filled}
use Rattle.depth_raster.proofs.painting.fill_run.Given as goal

abbrev pub invariant-loop-q : goal.invariant-loop-q
invariant-loop-q l = SpanRelates l.block (colour_in l.block l.fn.colours) (colour_in l.block l.colours) (filled l.colour) l.run.r l.run.start l.q
