use Rattle.std.proofs.Common.{Some, ◌∙◌, sym, ap, subst}
use Rattle.stream_stages.specs.CullParts.{StreamCullState, StreamCullWork, StreamCullPart}
use Rattle.stream_stages.proofs.HandedOn.{part_filled}
use Rattle.stream_stages.proofs.cull_stage.StreamCullStage.fill.Goals as goal

pub returns-clause-part : goal.returns-clause-part
returns-clause-part c = λ taken sent gone part.
    let d = c.self.inside in
    let s : StreamCullState =
    record { copy = d.copy; ended = d.ended; held = d.held; piece = d.piece; frame = d.frame; walk = d.walk } in
    let filled = c.fill_piece-self-inside in
    part_filled d.lens d.limit c.args.piece.limit s taken sent gone c.args.frame filled.new.piece filled.result filled.new.walk
    (ap (λ (w : StreamCullWork). w.state.piece) c.self.view_is ∙ c.requires.bare)
    (c.requires.limit ∙ sym (ap (λ (w : StreamCullWork). w.limit) c.self.view_is)) filled.ensures.pieces
    (subst (λ (w : StreamCullWork). StreamCullPart w.lens w.limit (record w.state { frame = Some c.args.frame }) taken sent gone)
    (sym c.self.view_is) part)
