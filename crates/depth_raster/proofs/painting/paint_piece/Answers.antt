use Rattle.std.proofs.Common.{◌≡◌, ◌+◌, Option, sym, subst, arith}
use Rattle.std.specs.Option.{IfSome}
use Rattle.tri_cover.specs.declared.hit.Hit.{Hit}
use Rattle.depth_raster.specs.Blocks.{colour_in}
use Rattle.depth_raster.specs.Means.{shaded_within}
use Rattle.depth_raster.specs.Tiles.{hit_within}
use Rattle.depth_raster.proofs.Following.{span_kept, span_weaker}
use Rattle.depth_raster.proofs.Readied.{face_hits, nothing_hit}
use Rattle.depth_raster.proofs.painting.paint_piece.Goals as goal

pub returns-in-Some : goal.returns-in-Some
returns-in-Some c =
    let a = c.args in
    let b = a.block.now in
    let f = c.in-Some.face in
    span_weaker b (colour_in b a.colours.now) (colour_in b c.paint_face.new.colours) (shaded_within f b) (hit_within a.lens.now a.piece.now b) a.run.now.r a.run.now.start a.run.now.end c.paint_face.ensures
    (λ q lo hi column before after shaded.
    subst (λ (o : Option Hit). IfSome o (λ h. after ≡ h.colour))
    (sym (face_hits a.lens.now a.piece.now f c.requires.ready c.in-Some.is (b.left + q) (b.first + a.run.now.r) (omega (arith, column, c.requires.block.columns)) (omega (arith, c.requires.run.row, c.requires.block.rows)))) shaded)

pub returns-in-None : goal.returns-in-None
returns-in-None c =
    let a = c.args in
    let b = a.block.now in
    span_kept b (colour_in b a.colours.now) (hit_within a.lens.now a.piece.now b) a.run.now.r a.run.now.start a.run.now.end
    (λ q lo hi column.
    subst (λ (o : Option Hit). IfSome o (λ h. colour_in b a.colours.now q a.run.now.r ≡ h.colour))
    (sym (nothing_hit a.lens.now a.piece.now c.requires.ready c.in-None.is (b.left + q) (b.first + a.run.now.r) (omega (arith, column, c.requires.block.columns)) (omega (arith, c.requires.run.row, c.requires.block.rows)))) tt)
