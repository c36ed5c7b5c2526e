use Rattle.std.proofs.Common.{◌≡◌, ◌++◌, ◌∙◌, sym, ap, subst}
use Rattle.std.specs.Option.{option_to_list}
use Rattle.stream_stages.specs.PieceFrames.{lists_in}
use Rattle.stream_stages.specs.DrawParts.{StreamDrawState, StreamDrawWork}
use Rattle.stream_stages.specs.DrawSteps.{IsReadyFor}
use Rattle.stream_stages.proofs.Going.{part_on, part_over}
use Rattle.stream_stages.proofs.draw_stage.StreamDrawStage.go_on.Goals as goal

pub returns-then-has_channels-clause-part : goal.returns-then-has_channels-clause-part
returns-then-has_channels-clause-part c = λ first came gone taken sent ready given.
    let d = c.self.inside in
    let s : StreamDrawState = record { ended = d.ended; spent = d.spent; held = d.held; frame = d.frame; raster = d.raster } in
    part_on d.lens d.back first s taken sent came gone c.args.frame
    (ap (λ (w : StreamDrawWork). w.state.held) c.self.view_is ∙ c.requires.bare)
    (c.has_channels.ensures.more c.if-has_channels.true)
    (subst (λ (w : StreamDrawWork). IsReadyFor w.lens w.back w.state taken sent (lists_in came) c.args.frame) (sym c.self.view_is) ready)
    (subst (λ (w : StreamDrawWork). gone ++ option_to_list w.state.spent ≡ first ++ came) (sym c.self.view_is) given)

pub returns-clause-part : goal.returns-clause-part
returns-clause-part c = λ first came gone taken sent ready given.
    let d = c.self.inside in
    let s : StreamDrawState = record { ended = d.ended; spent = d.spent; held = d.held; frame = d.frame; raster = d.raster } in
    part_over d.lens d.back first s taken sent came gone c.args.frame c.finished.result
    (ap (λ (w : StreamDrawWork). w.state.frame) c.self.view_is ∙ c.requires.between)
    (c.has_channels.ensures.over c.if-has_channels.false) c.finished.ensures
    (subst (λ (w : StreamDrawWork). IsReadyFor w.lens w.back w.state taken sent (lists_in came) c.args.frame) (sym c.self.view_is) ready)
    (subst (λ (w : StreamDrawWork). gone ++ option_to_list w.state.spent ≡ first ++ came) (sym c.self.view_is) given)
