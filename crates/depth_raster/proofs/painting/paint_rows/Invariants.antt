use Rattle.std.proofs.Common.{◌-◌, ◌≤◌}
use Rattle.depth_raster.specs.Blocks.{colour_in, place_in}
use Rattle.depth_raster.specs.Following.{FirstRelate}
use Rattle.depth_raster.specs.Tiles.{painted_within}
use Rattle.depth_raster.proofs.painting.paint_rows.Given as goal

abbrev pub invariant-loop-r : goal.invariant-loop-r
invariant-loop-r l = FirstRelate l.block (colour_in l.block l.fn.colours) (colour_in l.block l.colours)
    (painted_within l.lens l.back l.pieces l.block l.marks) (place_in l.block 0 l.r)

abbrev pub invariant-loop-q : goal.invariant-loop-q
invariant-loop-q l = record {
  painted : FirstRelate l.block (colour_in l.block l.fn.colours) (colour_in l.block l.colours)
      (painted_within l.lens l.back l.pieces l.block l.marks) (place_in l.block l.q l.r);
  within : l.q ≤ l.block.width;
}

abbrev pub decreases-loop-q : goal.decreases-loop-q
decreases-loop-q l = l.block.width - l.q
