use Rattle.depth_raster.specs.Tiles.{IsPainted}
use Rattle.depth_raster.proofs.Tiling.{PartsSoFar}
use Rattle.depth_raster.proofs.strips.paint_tiles.Given as goal

abbrev pub invariant-loop-t : goal.invariant-loop-t
invariant-loop-t l = PartsSoFar (IsPainted l.lens l.back l.pieces) l.initial.tiles l.tiles l.t
