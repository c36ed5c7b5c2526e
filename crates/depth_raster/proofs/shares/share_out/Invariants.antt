use Rattle.std.proofs.Common.{take}
use Rattle.depth_raster.specs.Shares.{AreShared}
use Rattle.depth_raster.proofs.shares.share_out.Given as goal

abbrev pub invariant-loop-slot : goal.invariant-loop-slot
invariant-loop-slot l = AreShared (take l.slot-index l.slots) l.fn.strips l.strips
