use Rattle.std.proofs.Common.{[], ◌∷◌, ◌++◌, ◌∙◌, sym, ap, subst}
use Rattle.stage_parts.specs.declared.packets.Packet.{Packet}
use Rattle.stream_stages.specs.DrawParts.{StreamDrawState, StreamDrawWork, StreamDrawPart}
use Rattle.stream_stages.proofs.Going.{ready_taken, part_ended}
use Rattle.stream_stages.proofs.draw_stage.StreamDrawStage.take.Goals as goal

pub returns-in-Some-End-clause-part : goal.returns-in-Some-End-clause-part
returns-in-Some-End-clause-part g c = λ first came gone sent part.
    let d = c.self.inside in
    let s : StreamDrawState = record { ended = d.ended; spent = d.spent; held = d.held; frame = d.frame; raster = d.raster } in
    let taken = g.T.TakeEnd.taken c.args.from.now in
    part_ended d.lens d.back first s taken (g.T.TakeEnd.taken c.pop.new.self) sent came gone
    (ap (λ (w : StreamDrawWork). w.state.frame) c.self.view_is ∙ c.requires.between)
    (c.in-Some-End.ensures.some ∙ ap (λ (p : Packet). taken ++ p ∷ []) c.in-Some-End.field-0-is)
    (subst (λ (w : StreamDrawWork). StreamDrawPart w.lens w.back first w.state taken sent came gone) (sym c.self.view_is) part)

pub returns-in-Some-Frame-clause-part : goal.returns-in-Some-Frame-clause-part
returns-in-Some-Frame-clause-part g c = λ first came gone sent part.
    let w = c.args.self.now in
    let taken = g.T.TakeEnd.taken c.args.from.now in
    c.go_on.ensures.part first came gone (g.T.TakeEnd.taken c.pop.new.self) sent
    (ready_taken w.lens w.back first w.state taken (g.T.TakeEnd.taken c.pop.new.self) sent came gone c.in-Some-Frame.load c.of.result
    c.requires.between c.requires.bare
    (c.in-Some-Frame.ensures.some ∙ ap (λ (p : Packet). taken ++ p ∷ []) c.in-Some-Frame.field-0-is) c.of.ensures part)
    part.back_again
