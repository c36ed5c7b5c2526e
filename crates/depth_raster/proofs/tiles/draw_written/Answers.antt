use Rattle.std.proofs.Common.{sym, subst}
use Rattle.depth_raster.specs.Blocks.{IsBlockOf}
use Rattle.depth_raster.specs.Tiles.{face_over}
use Rattle.depth_raster.specs.declared.blocks.Block.{Block}
use Rattle.depth_raster.proofs.Later.{kept_marked}
use Rattle.depth_raster.proofs.tiles.draw_written.Goals as goal

pub draw_paid-requires-clause-block : goal.draw_paid-requires-clause-block
draw_paid-requires-clause-block c = subst (λ (b : Block). IsBlockOf c.args.lens.now b) (sym c.pay.ensures.kept.block) c.requires.block

pub returns : goal.returns
returns c = kept_marked (face_over c.args.lens.now c.args.piece.now.face) c.args.tile.now c.pay.new.tile c.draw_paid.new.tile c.pay.ensures.kept c.draw_paid.ensures
