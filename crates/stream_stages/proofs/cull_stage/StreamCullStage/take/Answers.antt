use Rattle.std.proofs.Common.{List, [], ◌∷◌, ◌++◌, ◌∙◌, sym, ap, subst}
use Rattle.stage_parts.specs.declared.packets.Packet.{Packet}
use Rattle.stream_stages.specs.CullParts.{StreamCullState, StreamCullWork, StreamCullPart}
use Rattle.stream_stages.proofs.HandedOn.{part_ended}
use Rattle.stream_stages.proofs.cull_stage.StreamCullStage.take.Goals as goal

pub returns-in-Some-End-clause-part : goal.returns-in-Some-End-clause-part
returns-in-Some-End-clause-part g c = λ sent gone part.
    let d = c.self.inside in
    let s : StreamCullState =
    record { copy = d.copy; ended = d.ended; held = d.held; piece = d.piece; frame = d.frame; walk = d.walk } in
    let taken = g.T.TakeEnd.taken c.args.from.now in
    part_ended d.lens d.limit s taken (g.T.TakeEnd.taken c.pop.new.self) sent gone
    (ap (λ (w : StreamCullWork). w.state.held) c.self.view_is ∙ c.requires.bare)
    (ap (λ (w : StreamCullWork). w.state.frame) c.self.view_is ∙ c.requires.between)
    (c.in-Some-End.ensures.some ∙ ap (λ (p : Packet). taken ++ p ∷ []) c.in-Some-End.field-0-is)
    (subst (λ (w : StreamCullWork). StreamCullPart w.lens w.limit w.state taken sent gone) (sym c.self.view_is) part)

pub returns-in-Some-Frame-clause-part : goal.returns-in-Some-Frame-clause-part
returns-in-Some-Frame-clause-part g c = λ sent gone part.
    let taken = g.T.TakeEnd.taken c.args.from.now in
    let more = c.in-Some-Frame.ensures.some ∙ ap (λ (p : Packet). taken ++ p ∷ []) c.in-Some-Frame.field-0-is in
    let w = c.begin.new.self in
    subst (λ (ps : List Packet). StreamCullPart w.lens w.limit w.state ps sent gone) (sym more) (c.begin.ensures.part taken sent gone part)
