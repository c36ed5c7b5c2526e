use Rattle.depth_raster.specs.Blocks.{colour_in, place_in}
use Rattle.depth_raster.specs.Following.{FirstRelate}
use Rattle.depth_raster.specs.Tiles.{hit_within}
use Rattle.depth_raster.proofs.covered.paint_whole.Given as goal

abbrev pub invariant-loop-r : goal.invariant-loop-r
invariant-loop-r l = FirstRelate l.block (colour_in l.block l.fn.colours) (colour_in l.block l.colours)
    (hit_within l.lens l.piece l.block) (place_in l.block 0 l.r)
