use Rattle.depth_raster.proofs.Composing.{ShowsFront}
use Rattle.depth_raster.proofs.shown.show_tiles.Given as goal

abbrev pub invariant-loop-j : goal.invariant-loop-j
invariant-loop-j l = ShowsFront l.band l.tiles l.j l.bytes
