use Rattle.depth_raster.specs.Tiles.{face_over, MarksFollow}
use Rattle.depth_raster.proofs.Tiling.{PartsSoFar}
use Rattle.depth_raster.proofs.across.draw_across.Given as goal

abbrev pub invariant-loop-t : goal.invariant-loop-t
invariant-loop-t l = PartsSoFar (MarksFollow (face_over l.lens l.piece.face)) l.initial.tiles l.tiles l.t
