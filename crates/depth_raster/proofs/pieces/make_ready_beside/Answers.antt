use Rattle.std.proofs.Common.{get_or, subst}
use Rattle.depth_raster.specs.Pieces.{IsMadeReady}
use Rattle.depth_raster.specs.declared.pieces.Piece.{Piece}
use Rattle.depth_raster.proofs.pieces.make_ready_beside.Goals as goal

pub returns : goal.returns
returns g c = λ i d below.
    let at = (c.for_each_mut.ensures i d below).1 in
    subst (λ (p : Piece). IsMadeReady c.args.lens.now (get_or c.args.pieces.now i d) p) at.left
    (subst (λ (p : Piece). IsMadeReady c.args.lens.now p at.after_call.now) at.argument_is at.call)
