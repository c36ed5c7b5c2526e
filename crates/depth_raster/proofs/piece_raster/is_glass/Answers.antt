use Rattle.depth_raster.proofs.InPieces.{item_glass, item_lacks}
use Rattle.std.proofs.Common.{◌∙◌}
use Rattle.depth_raster.proofs.piece_raster.is_glass.Goals as goal

pub returns-in-Some : goal.returns-in-Some
returns-in-Some c = c.is_some.ensures ∙ item_glass c.args.list.now c.args.number c.in-Some.item.now c.in-Some.ensures.value

pub returns-in-None : goal.returns-in-None
returns-in-None c = item_lacks c.args.list.now c.args.number c.in-None.ensures.value
