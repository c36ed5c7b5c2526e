use Rattle.depth_raster.specs.Tiles.{IsCleared}
use Rattle.depth_raster.proofs.Tiling.{PartsSoFar}
use Rattle.depth_raster.proofs.strips.clear_tiles.Given as goal

abbrev pub invariant-loop-t : goal.invariant-loop-t
invariant-loop-t l = PartsSoFar IsCleared l.initial.tiles l.tiles l.t
