use Rattle.std.proofs.Common.{Bool, List, ◌+◌, length, ap, refl, ◌∙◌, subst, sym}
use Rattle.depth_raster.specs.Canvas.{drawn_after, waiting_over}
use Rattle.depth_raster.specs.Pieces.{AreGathered}
use Rattle.depth_raster.specs.declared.pieces.Piece.{Piece}
use Rattle.depth_raster.specs.declared.waiting.Waiting.{Waiting}
use Rattle.depth_raster.proofs.Flushed.{waiting_more}
use Rattle.depth_raster.proofs.Prepared.{gathered_more}
use Rattle.depth_raster.proofs.opaque.draw_tri.Goals as goal

pub returns-clause-gathered : goal.returns-clause-gathered
returns-clause-gathered g c =
    let a = c.args in
    let list = a.list.now in
    let room = c.make_room.new.batch in
    let w : Waiting = record { item = a.item; number = a.number; rank = length room.pieces + length room.waiting.items + 1 } in
    subst (λ (ps : List Piece). AreGathered list a.lens.now ps c.gather.new.self.waiting.items) (sym c.gather.ensures.pieces)
    (subst (λ (ws : List Waiting). AreGathered list a.lens.now room.pieces ws) (sym c.gather.ensures.waiting)
    (gathered_more list a.lens.now room.pieces room.waiting.items w c.make_room.ensures.room c.requires.there refl c.make_room.ensures.gathered))

pub returns-clause-drawn : goal.returns-clause-drawn
returns-clause-drawn g c = λ px py column row.
    let a = c.args in
    let lens = a.lens.now in
    let list = a.list.now in
    let room = c.make_room.new.batch in
    let strips = c.make_room.new.strips.items in
    let after = c.gather.new.self in
    let w : Waiting = record { item = a.item; number = a.number; rank = length room.pieces + length room.waiting.items + 1 } in
    ap (λ (b : Bool). drawn_after list lens b strips after.pieces after.waiting.items px py) c.gather.ensures.first
    ∙ ap (λ (ps : List Piece). drawn_after list lens room.is_first strips ps after.waiting.items px py) c.gather.ensures.pieces
    ∙ ap (λ (ws : List Waiting). drawn_after list lens room.is_first strips room.pieces ws px py) c.gather.ensures.waiting
    ∙ waiting_more list lens room.is_first strips room.pieces room.waiting.items w px py column row
    ∙ ap (waiting_over list lens a.item a.number px py) (c.make_room.ensures.drawn px py column row)
