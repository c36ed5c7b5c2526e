use Rattle.std.proofs.Common.{◌∙◌, Option, sym, subst}
use Rattle.stream_stages.specs.Cuts.{Cut}
use Rattle.stream_stages.specs.DrawParts.{StreamDrawState, StreamDrawWork, StreamDrawPart}
use Rattle.stream_stages.proofs.draw_stage.StreamDrawStage.go.Goals as goal

pub returns-in-Some-clause-part : goal.returns-in-Some-clause-part
returns-in-Some-clause-part g c = λ first part.
    let d = c.self.inside in
    let s : StreamDrawState = record { ended = d.ended; spent = d.spent; held = d.held; frame = d.frame; raster = d.raster } in
    let taken = g.T.TakeEnd.taken c.args.from.now in
    let sent = g.S.SendEnd.sent c.args.to.now in
    let came = g.P.TakeEnd.taken c.args.pieces.now in
    let gone = g.B.SendEnd.sent c.args.back.now in
    c.give_back.ensures.part first came taken sent
    (subst (λ (o : Option Cut). StreamDrawPart d.lens d.back first (record s { spent = o }) taken sent came gone)
    (sym c.take.ensures.value ∙ c.in-Some.is)
    (subst (λ (w : StreamDrawWork). StreamDrawPart w.lens w.back first w.state taken sent came gone) (sym c.self.view_is) part))

pub returns-in-None-clause-part : goal.returns-in-None-clause-part
returns-in-None-clause-part g c = λ first part.
    let d = c.self.inside in
    let s : StreamDrawState = record { ended = d.ended; spent = d.spent; held = d.held; frame = d.frame; raster = d.raster } in
    let taken = g.T.TakeEnd.taken c.args.from.now in
    let sent = g.S.SendEnd.sent c.args.to.now in
    let came = g.P.TakeEnd.taken c.args.pieces.now in
    let gone = g.B.SendEnd.sent c.args.back.now in
    c.go_forward.ensures.part first gone
    (subst (λ (o : Option Cut). StreamDrawPart d.lens d.back first (record s { spent = o }) taken sent came gone)
    (sym c.take.ensures.value ∙ c.in-None.is ∙ sym c.take.ensures.after)
    (subst (λ (w : StreamDrawWork). StreamDrawPart w.lens w.back first w.state taken sent came gone) (sym c.self.view_is) part))
