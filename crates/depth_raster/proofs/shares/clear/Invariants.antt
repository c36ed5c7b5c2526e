use Rattle.std.proofs.Common.{[]}
use Rattle.depth_raster.specs.Shares.{HasSlots}
use Rattle.depth_raster.proofs.Tiling.{PartsSoFar}
use Rattle.depth_raster.proofs.shares.clear.Given as goal

abbrev pub invariant-loop-i : goal.invariant-loop-i
invariant-loop-i l = PartsSoFar (HasSlots []) l.initial.strips l.strips l.i
