use Rattle.std.proofs.Common.{take}
use Rattle.depth_raster.specs.Later.{ComesLast}
use Rattle.depth_raster.proofs.last.is_before_any.Given as goal

abbrev pub invariant-loop-other : goal.invariant-loop-other
invariant-loop-other l = ComesLast l.mark (take l.other-index l.marks)
