use Rattle.depth_raster.proofs.Readied.{none_marked}
use Rattle.depth_raster.proofs.tiles.draw_piece.Goals as goal

pub returns-in-None : goal.returns-in-None
returns-in-None c = none_marked c.args.lens.now c.args.piece.now c.args.tile.now c.requires.ready c.requires.block c.in-None.is
