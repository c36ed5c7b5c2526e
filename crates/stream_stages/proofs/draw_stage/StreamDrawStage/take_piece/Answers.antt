use Rattle.std.proofs.Common.{Option, Some, ◌∙◌, sym, ap, subst}
use Rattle.stream_stages.specs.declared.drawing.Drawing.{Drawing}
use Rattle.stream_stages.specs.PieceFrames.{lists_in}
use Rattle.stream_stages.specs.DrawParts.{StreamDrawState, StreamDrawWork, StreamDrawPart}
use Rattle.stream_stages.specs.DrawSteps.{IsReadyFor}
use Rattle.stream_stages.proofs.Going.{ready_drawn, held_back}
use Rattle.stream_stages.proofs.draw_stage.StreamDrawStage.take_piece.Goals as goal

pub returns-in-Some-clause-part : goal.returns-in-Some-clause-part
returns-in-Some-clause-part g c = λ first gone taken sent part.
    let d = c.self-in-Some.inside in
    let s : StreamDrawState = record { ended = d.ended; spent = d.spent; held = d.held; frame = d.frame; raster = d.raster } in
    let came = g.P.TakeEnd.taken c.args.pieces.now in
    let came' = g.P.TakeEnd.taken c.pop.new.self in
    let piece = c.in-Some.piece in
    let r = c.draw_piece.new.raster in
    let f = c.draw_piece.new.frame in
    let before =
    subst (λ (w : StreamDrawWork). StreamDrawPart w.lens w.back first (record w.state { frame = Some c.args.frame }) taken sent came gone)
    (sym c.self-in-Some.view_is) part in
    let none = ap (λ (w : StreamDrawWork). w.state.frame) c.self-in-Some.view_is ∙ c.requires.between in
    c.go_on.ensures.part first came' gone taken sent
    (subst (λ (o : Option Drawing). IsReadyFor d.lens d.back (record s { frame = o; spent = Some piece; raster = r }) taken sent (lists_in came') f)
    (sym none)
    (ready_drawn d.lens d.back first s r taken sent came came' gone piece c.args.frame f
    (ap (λ (w : StreamDrawWork). w.state.held) c.self-in-Some.view_is ∙ c.requires.bare) c.requires.channels c.self-in-Some.invariant.renderer
    c.self-in-Some.invariant.background c.in-Some.ensures.some c.draw_piece.ensures.draws before))
    (held_back first came came' gone d.spent piece (ap (λ (w : StreamDrawWork). w.state.spent) c.self-in-Some.view_is ∙ c.requires.given)
    c.in-Some.ensures.some before.back_again)
