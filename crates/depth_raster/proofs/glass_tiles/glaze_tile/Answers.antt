use Rattle.depth_raster.proofs.Readied.{none_glazed}
use Rattle.depth_raster.proofs.glass_tiles.glaze_tile.Goals as goal

pub returns-in-None : goal.returns-in-None
returns-in-None c = none_glazed c.args.lens.now c.args.piece.now c.args.tile.now c.requires.ready c.requires.block c.in-None.is
