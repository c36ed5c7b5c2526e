use Rattle.depth_raster.specs.Tiles.{IsSettled}
use Rattle.depth_raster.proofs.Tiling.{PartsSoFar}
use Rattle.depth_raster.proofs.strips.settle_tiles.Given as goal

abbrev pub invariant-loop-t : goal.invariant-loop-t
invariant-loop-t l = PartsSoFar IsSettled l.initial.tiles l.tiles l.t
