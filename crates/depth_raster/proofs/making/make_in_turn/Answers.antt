use Rattle.depth_raster.proofs.Tiled.{made_strips}
use Rattle.depth_raster.proofs.making.make_in_turn.Goals as goal

pub returns : goal.returns
returns c = made_strips c.args.lens.now c.args.strips.now c.make_each.new.strips c.requires c.make_each.auto.strips c.make_each.ensures
