use Rattle.std.proofs.Common.{sym, subst}
use Rattle.depth_raster.specs.Blocks.{IsBlockOf}
use Rattle.depth_raster.specs.Tiles.{face_over}
use Rattle.depth_raster.specs.declared.blocks.Block.{Block}
use Rattle.depth_raster.proofs.Owing.{marks_long}
use Rattle.depth_raster.proofs.Later.{last_marked, kept_marked}
use Rattle.depth_raster.proofs.tiles.draw_at_top.Goals as goal

pub returns-then-is_after : goal.returns-then-is_after
returns-then-is_after c =
    let a = c.args in
    let t = a.tile.now in
    last_marked a.lens.now a.piece.now.face t c.is_after.new.tile c.is_after.ensures.kept (marks_long t) (c.is_after.ensures.after c.if-is_after.true) c.requires.depth

pub draw_over-requires-clause-block : goal.draw_over-requires-clause-block
draw_over-requires-clause-block c = subst (λ (b : Block). IsBlockOf c.args.lens.now b) (sym c.is_after.ensures.kept.block) c.requires.block

pub returns : goal.returns
returns c = kept_marked (face_over c.args.lens.now c.args.piece.now.face) c.args.tile.now c.is_after.new.tile c.draw_over.new.tile c.is_after.ensures.kept c.draw_over.ensures
