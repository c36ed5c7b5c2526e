use Rattle.std.proofs.Common.{List, [], ◌∷◌, ◌∙◌, sym, subst}
use Rattle.std.proofs.lemmas.List.{with_items_is}
use Rattle.depth_raster.specs.Strips.{AreStrips, AreToBe}
use Rattle.depth_raster.specs.declared.strip.Strip.{Strip}
use Rattle.depth_raster.proofs.InPieces.{nothing_drawn}
use Rattle.depth_raster.proofs.Prepared.{none_ready}
use Rattle.depth_raster.proofs.piece_raster.PieceRaster.new.Goals as goal

pub make_in_turn-requires : goal.make_in_turn-requires
make_in_turn-requires c =
    subst (λ (ss : List Strip). AreToBe c.args.lens.now ss) (sym c.as_mut_slice.ensures.value) c.in_ok-strips.ensures

pub invariant_of-result : goal.invariant_of-result
invariant_of-result c =
    let strips = c.in_ok-strips.strips in
    let made = c.make_in_turn.new.strips in
    let written = with_items_is strips made (c.make_in_turn.auto.strips ∙ c.as_mut_slice.ensures.len) in
    (subst (λ (ss : List Strip). AreStrips c.args.lens.now ss) (sym written) c.make_in_turn.ensures, λ ground. none_ready c.args.lens.now c.begin.new.self.pieces (c.begin.ensures.pieces ∙ c.in_ok-batch.ensures))

pub returns-clause-drawn : goal.returns-clause-drawn
returns-clause-drawn c =
    nothing_drawn c.args.lens.now (0 ∷ 0 ∷ 0 ∷ []) c.begin.new.self.is_first _ c.begin.new.self.pieces c.begin.ensures.first
    (c.begin.ensures.pieces ∙ c.in_ok-batch.ensures)
