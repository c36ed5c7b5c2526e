use Rattle.depth_raster.specs.Shown.{SetsTile}
use Rattle.depth_raster.proofs.shown.show_tile.Given as goal

abbrev pub invariant-loop-r : goal.invariant-loop-r
invariant-loop-r l = SetsTile l.width l.initial.bytes l.bytes l.tile l.r
