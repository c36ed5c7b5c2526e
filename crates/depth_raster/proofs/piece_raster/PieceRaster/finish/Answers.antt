use Rattle.std.proofs.Common.{List, sym, subst}
use Rattle.std.specs.Prelude.{filter}
use Rattle.pf_model.specs.Walks.{Instance}
use Rattle.ppm_out.specs.Pixmap.{Shows}
use Rattle.tri_cover.specs.Glass.{is_glass, is_drawn_before}
use Rattle.tri_cover.specs.Picture.{picture}
use Rattle.tri_cover.specs.Sorting.{sorted}
use Rattle.depth_raster.specs.InPieces.{PieceWork, HasDrawn, joined}
use Rattle.depth_raster.proofs.GlassInOrder.{turn_adds_up}
use Rattle.depth_raster.proofs.InPieces.{nothing_drawn}
use Rattle.depth_raster.proofs.Prepared.{none_ready}
use Rattle.depth_raster.proofs.piece_raster.PieceRaster.finish.Goals as goal

pub invariant_of-self : goal.invariant_of-self
invariant_of-self g c =
    let s = c.self.inside in
    (c.end_picture.ensures.strips, λ ground. none_ready s.lens c.end_picture.new.batch.pieces c.end_picture.ensures.empty)

pub returns-clause-drawn : goal.returns-clause-drawn
returns-clause-drawn g c =
    let s = c.self.inside in
    let b = c.end_picture.new.batch in
    nothing_drawn s.lens s.back b.is_first c.end_picture.new.strips.items b.pieces c.end_picture.ensures.first c.end_picture.ensures.empty

pub returns-clause-pixels : goal.returns-clause-pixels
returns-clause-pixels g c = λ xs h.
    let gs = sorted is_drawn_before (filter is_glass xs) in
    let before = subst (λ (w : PieceWork). HasDrawn w xs gs) (sym c.self.view_is) h in
    subst (λ (w : PieceWork). Shows c.end_picture.new.image (picture w.lens w.back xs)) c.self.view_is (c.end_picture.ensures.pixels xs before)

pub returns-clause-pieces : goal.returns-clause-pieces
returns-clause-pieces g c = λ pieces h order.
    let xs = joined pieces in
    let gs = sorted is_drawn_before (filter is_glass xs) in
    let turned = subst (λ (ys : List Instance). HasDrawn c.args.self.now xs ys) (turn_adds_up pieces order) h in
    let before = subst (λ (w : PieceWork). HasDrawn w xs gs) (sym c.self.view_is) turned in
    subst (λ (w : PieceWork). Shows c.end_picture.new.image (picture w.lens w.back xs)) c.self.view_is (c.end_picture.ensures.pixels xs before)
