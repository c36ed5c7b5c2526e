use Rattle.std.proofs.Common.{take}
use Rattle.depth_raster.specs.Shares.{HasShare}
use Rattle.depth_raster.proofs.shares.take_share.Given as goal

abbrev pub invariant-loop-slot : goal.invariant-loop-slot
invariant-loop-slot l = HasShare (take l.slot-index l.slots) l.fn.strip l.strip
