use Rattle.std.proofs.Common.{◌∙◌, Option, sym, subst}
use Rattle.stream_stages.specs.Cuts.{Cut}
use Rattle.stream_stages.specs.CullParts.{StreamCullState, StreamCullWork, StreamCullPart}
use Rattle.stream_stages.proofs.cull_stage.StreamCullStage.go_on.Goals as goal

pub returns-in-Some-clause-part : goal.returns-in-Some-clause-part
returns-in-Some-clause-part g c = λ sent part.
    let d = c.self.inside in
    let s : StreamCullState =
    record { copy = d.copy; ended = d.ended; held = d.held; piece = d.piece; frame = d.frame; walk = d.walk } in
    let taken = g.T.TakeEnd.taken c.args.from.now in
    let gone = g.P.SendEnd.sent c.args.pieces.now in
    c.send_piece.ensures.part taken sent
    (subst (λ (o : Option Cut). StreamCullPart d.lens d.limit (record s { piece = o }) taken sent gone)
    (sym c.take.ensures.value ∙ c.in-Some.is)
    (subst (λ (w : StreamCullWork). StreamCullPart w.lens w.limit w.state taken sent gone) (sym c.self.view_is) part))

pub returns-in-None-clause-part : goal.returns-in-None-clause-part
returns-in-None-clause-part g c = λ sent part.
    let d = c.self.inside in
    let s : StreamCullState =
    record { copy = d.copy; ended = d.ended; held = d.held; piece = d.piece; frame = d.frame; walk = d.walk } in
    let taken = g.T.TakeEnd.taken c.args.from.now in
    let gone = g.P.SendEnd.sent c.args.pieces.now in
    c.take_next.ensures.part sent gone
    (subst (λ (o : Option Cut). StreamCullPart d.lens d.limit (record s { piece = o }) taken sent gone)
    (sym c.take.ensures.value ∙ c.in-None.is ∙ sym c.take.ensures.after)
    (subst (λ (w : StreamCullWork). StreamCullPart w.lens w.limit w.state taken sent gone) (sym c.self.view_is) part))
