use Rattle.depth_raster.specs.Tiles.{mark_in, HaveRank}
use Rattle.depth_raster.proofs.painting.run_end.Given as goal

abbrev pub invariant-loop-q : goal.invariant-loop-q
invariant-loop-q l = HaveRank l.block l.marks l.r l.start l.q (mark_in l.block l.marks l.start l.r).rank
