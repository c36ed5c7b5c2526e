use Rattle.depth_raster.proofs.Shared.{GainsSoFar}
use Rattle.depth_raster.proofs.shares.give.Given as goal

abbrev pub invariant-loop-i : goal.invariant-loop-i
invariant-loop-i l = GainsSoFar l.slot l.initial.strips l.strips l.i
