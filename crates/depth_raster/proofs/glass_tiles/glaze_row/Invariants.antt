use Rattle.std.proofs.Common.{◌+◌}
use Rattle.depth_raster.specs.Blocks.{colour_in}
use Rattle.depth_raster.specs.Edges.{AreValuesAt}
use Rattle.depth_raster.specs.Following.{PixelsFollow}
use Rattle.depth_raster.specs.Means.{AreMeansAt}
use Rattle.depth_raster.specs.Tiles.{glass_within, face_glazes}
use Rattle.depth_raster.proofs.glass_tiles.glaze_row.Given as goal

abbrev pub invariant-loop-q : goal.invariant-loop-q
invariant-loop-q l = record {
  drawn : PixelsFollow l.block (colour_in l.block l.fn.colours) (colour_in l.block l.colours)
      (glass_within l.block l.marks (face_glazes l.lens l.piece.face)) l.r l.q;
  values : AreValuesAt l.face (l.block.left + l.q) (l.block.first + l.r) l.values;
  means : AreMeansAt l.face (l.block.left + l.q) (l.block.first + l.r) l.means;
}
