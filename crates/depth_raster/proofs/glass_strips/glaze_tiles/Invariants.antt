use Rattle.std.proofs.Common.{take}
use Rattle.depth_raster.specs.Strips.{TilesRelate}
use Rattle.depth_raster.specs.Tiles.{pieces_glazes, ColoursFollow}
use Rattle.depth_raster.proofs.glass_strips.glaze_tiles.Given as goal

abbrev pub invariant-loop-i : goal.invariant-loop-i
invariant-loop-i l = TilesRelate (ColoursFollow (pieces_glazes l.lens (take l.i l.pieces))) l.initial.tiles l.tiles
