use Rattle.std.proofs.Common.{◌∙◌, Option, sym, subst}
use Rattle.stream_stages.specs.declared.drawing.Drawing.{Drawing}
use Rattle.stream_stages.specs.DrawParts.{StreamDrawState, StreamDrawWork, StreamDrawPart}
use Rattle.stream_stages.proofs.draw_stage.StreamDrawStage.take_next.Goals as goal

pub returns-in-Some-clause-part : goal.returns-in-Some-clause-part
returns-in-Some-clause-part g c = λ first gone sent part.
    let d = c.self.inside in
    let s : StreamDrawState = record { ended = d.ended; spent = d.spent; held = d.held; frame = d.frame; raster = d.raster } in
    let taken = g.T.TakeEnd.taken c.args.from.now in
    let came = g.P.TakeEnd.taken c.args.pieces.now in
    c.take_piece.ensures.part first gone taken sent
    (subst (λ (o : Option Drawing). StreamDrawPart d.lens d.back first (record s { frame = o }) taken sent came gone)
    (sym c.take.ensures.value ∙ c.in-Some.is)
    (subst (λ (w : StreamDrawWork). StreamDrawPart w.lens w.back first w.state taken sent came gone) (sym c.self.view_is) part))

pub returns-in-None-clause-part : goal.returns-in-None-clause-part
returns-in-None-clause-part g c = λ first gone sent part.
    let d = c.self.inside in
    let s : StreamDrawState = record { ended = d.ended; spent = d.spent; held = d.held; frame = d.frame; raster = d.raster } in
    let taken = g.T.TakeEnd.taken c.args.from.now in
    let came = g.P.TakeEnd.taken c.args.pieces.now in
    c.take-in-None.ensures.part first came gone sent
    (subst (λ (o : Option Drawing). StreamDrawPart d.lens d.back first (record s { frame = o }) taken sent came gone)
    (sym c.take.ensures.value ∙ c.in-None.is ∙ sym c.take.ensures.after)
    (subst (λ (w : StreamDrawWork). StreamDrawPart w.lens w.back first w.state taken sent came gone) (sym c.self.view_is) part))
