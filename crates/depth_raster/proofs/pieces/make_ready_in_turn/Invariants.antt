use Rattle.depth_raster.specs.Pieces.{IsMadeReady}
use Rattle.depth_raster.proofs.Tiling.{PartsSoFar}
use Rattle.depth_raster.proofs.pieces.make_ready_in_turn.Given as goal

abbrev pub invariant-loop-i : goal.invariant-loop-i
invariant-loop-i l = PartsSoFar (IsMadeReady l.lens) l.initial.pieces l.pieces l.i
