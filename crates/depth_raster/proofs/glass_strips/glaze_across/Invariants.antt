use Rattle.depth_raster.specs.Tiles.{face_glazes, ColoursFollow}
use Rattle.depth_raster.proofs.Tiling.{PartsSoFar}
use Rattle.depth_raster.proofs.glass_strips.glaze_across.Given as goal

abbrev pub invariant-loop-t : goal.invariant-loop-t
invariant-loop-t l = PartsSoFar (ColoursFollow (face_glazes l.lens l.piece.face)) l.initial.tiles l.tiles l.t
