use Rattle.std.proofs.Common.{Some, ap, sym, ◌∙◌, arith}
use Rattle.std.proofs.lemmas.Option.{slice_get-get_or}
use Rattle.depth_raster.specs.declared.pieces.Piece.{Piece}
use Rattle.depth_raster.proofs.Slotted.{nothing_at, slot_absent, slot_drawn}
use Rattle.depth_raster.proofs.across.draw_slot.Goals as goal

pub draw_across-requires-clause-slot : goal.draw_across-requires-clause-slot
draw_across-requires-clause-slot c =
    let a = c.args in
    let p = c.index-pieces-index.result in
    c.requires.slot p (slice_get-get_or a.pieces.now a.slot.now.index p c.if-index-pieces.true ∙ ap (λ (q : Piece). Some q) (sym c.index-pieces-index.is))

pub returns-then-index-pieces : goal.returns-then-index-pieces
returns-then-index-pieces c =
    let a = c.args in
    let p = c.index-pieces-index.result in
    let is = slice_get-get_or a.pieces.now a.slot.now.index p c.if-index-pieces.true ∙ ap (λ (q : Piece). Some q) (sym c.index-pieces-index.is) in
    slot_drawn a.lens.now a.pieces.now a.slot.now p a.tiles.now c.draw_across.new.tiles is c.draw_across.ensures

pub returns-else-index-pieces : goal.returns-else-index-pieces
returns-else-index-pieces c =
    let a = c.args in
    slot_absent a.lens.now a.pieces.now a.slot.now a.tiles.now (nothing_at a.pieces.now a.slot.now.index (omega (arith, c.if-index-pieces.false)))
