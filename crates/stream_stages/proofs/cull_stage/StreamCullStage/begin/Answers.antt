use Rattle.std.proofs.Common.{◌∙◌, sym, ap, subst}
use Rattle.update_lists.specs.declared.cuts.Cut.{Cut}
use Rattle.stage_parts.specs.Loads.{LoadState}
use Rattle.stream_stages.specs.CullParts.{first_four, StreamCullState, StreamCullWork, StreamCullPart}
use Rattle.stream_stages.proofs.HandedOn.{part_taken}
use Rattle.stream_stages.proofs.cull_stage.StreamCullStage.begin.Goals as goal

pub returns-clause-part : goal.returns-clause-part
returns-clause-part c = λ taken sent gone part.
    let d = c.self.inside in
    let s : StreamCullState =
    record { copy = d.copy; ended = d.ended; held = d.held; piece = d.piece; frame = d.frame; walk = d.walk } in
    let begun = c.begin_channel-self-inside in
    let cut = c.cut.ensures ∙ ap (λ (l : LoadState). l.cut) c.take_updates.ensures.load in
    part_taken d.lens d.limit s taken sent gone c.take_updates.new.copy c.args.load c.take_updates.new.load c.of.result begun.result begun.new.walk
    (ap (λ (w : StreamCullWork). w.state.ended) c.self.view_is ∙ c.requires.going)
    (ap (λ (w : StreamCullWork). w.state.held) c.self.view_is ∙ c.requires.bare)
    (ap (λ (w : StreamCullWork). w.state.frame) c.self.view_is ∙ c.requires.between) c.take_updates.ensures
    (c.of.ensures.time ∙ ap (λ (u : Cut). u.frame) cut) (c.of.ensures.views ∙ ap (λ (u : Cut). first_four u.views) cut) c.of.ensures.channel
    (begun.ensures.pieces d.limit c.take_updates.new.copy)
    (subst (λ (w : StreamCullWork). StreamCullPart w.lens w.limit w.state taken sent gone) (sym c.self.view_is) part)
