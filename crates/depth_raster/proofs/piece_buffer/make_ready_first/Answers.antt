use Rattle.std.proofs.Common.{◌≡◌, List, take, ◌++◌, sym, ◌∙◌, subst}
use Rattle.depth_raster.specs.Pieces.{AreMadeReady}
use Rattle.depth_raster.specs.declared.pieces.Piece.{Piece}
use Rattle.depth_raster.proofs.Prepared.{first_part}
use Rattle.depth_raster.proofs.piece_buffer.make_ready_first.Goals as goal

pub returns : goal.returns
returns g c =
    let cut = c.split_at_mut-pieces in
    let lens = c.args.lens.now in
    let after : take c.args.count (c.make_ready.new.pieces ++ cut.result.1.now) ≡ c.make_ready.new.pieces = first_part c.args.count c.make_ready.new.pieces cut.result.1.now (c.make_ready.auto.pieces ∙ cut.ensures.front_len) in
    subst (λ (qs : List Piece). AreMadeReady lens (take c.args.count c.args.written.now) qs) (sym after)
    (subst (λ (ps : List Piece). AreMadeReady lens ps c.make_ready.new.pieces) cut.ensures.front c.make_ready.ensures)
