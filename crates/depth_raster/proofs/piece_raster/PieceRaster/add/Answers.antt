use Rattle.std.proofs.Common.{ap, sym, ◌∙◌, subst}
use Rattle.depth_raster.specs.InPieces.{PieceWork, HasDrawn}
use Rattle.depth_raster.proofs.piece_raster.PieceRaster.add.Goals as goal

pub add_piece-self-inside-requires : goal.add_piece-self-inside-requires
add_piece-self-inside-requires g c = (c.type_bounds.sync-R, (c.self.invariant.0, c.self.invariant.1))

pub invariant_of-self : goal.invariant_of-self
invariant_of-self g c = (c.add_piece-self-inside.ensures.sound, c.add_piece-self-inside.ensures.ready)

pub returns-clause-drawn : goal.returns-clause-drawn
returns-clause-drawn g c = λ xs ys h none.
    let before = subst (λ (w : PieceWork). HasDrawn w xs ys) (sym c.self.view_is) h in
    c.add_piece-self-inside.ensures.drawn xs ys before (λ yes. none (ap (λ (w : PieceWork). w.glazing) (sym c.self.view_is) ∙ yes))

pub returns-clause-late : goal.returns-clause-late
returns-clause-late g c = λ xs ys h yes.
    let before = subst (λ (w : PieceWork). HasDrawn w xs ys) (sym c.self.view_is) h in
    c.add_piece-self-inside.ensures.late xs ys before (ap (λ (w : PieceWork). w.glazing) c.self.view_is ∙ yes)
