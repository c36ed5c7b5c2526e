use Rattle.std.proofs.Common.{take}
use Rattle.depth_raster.specs.Later.{ComesLast}
use Rattle.depth_raster.proofs.last.last_within.Given as goal

abbrev pub invariant-loop-mark : goal.invariant-loop-mark
invariant-loop-mark l = ComesLast l.last (take l.mark-index l.marks)
