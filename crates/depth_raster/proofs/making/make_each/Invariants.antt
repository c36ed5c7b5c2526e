use Rattle.depth_raster.specs.Strips.{IsMade}
use Rattle.depth_raster.proofs.Tiling.{PartsSoFar}
use Rattle.depth_raster.proofs.making.make_each.Given as goal

abbrev pub invariant-loop-i : goal.invariant-loop-i
invariant-loop-i l = PartsSoFar IsMade l.initial.strips l.strips l.i
