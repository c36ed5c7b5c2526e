use Rattle.std.proofs.Common.{◌∙◌, ap, sym, subst}
use Rattle.frame_stages.specs.CullBoxes.{GoesByBoxes}
use Rattle.frame_stages.specs.CullWorks.{CullWork, CullKeeps}
use Rattle.frame_stages.proofs.CullKept.{keeps_takes}
use Rattle.frame_stages.proofs.cull_stage.CullStage.cull.Goals as goal

pub returns-clause-keeps : goal.returns-clause-keeps
returns-clause-keeps c = λ taken sent keeps.
    let is = c.self.view_is in
    let inside = c.self.inside in
    let w : CullWork = record { lens = inside.lens; copy = inside.copy; ended = inside.ended; held = inside.held } in
    keeps_takes w c.cull_load.new.copy taken sent c.args.load c.cull_load.new.load
    (subst (λ (v : CullWork). CullKeeps v taken sent) (sym is) keeps) (ap (λ w. w.held) is ∙ c.requires.bare) c.cull_load.ensures

pub returns-clause-boxes : goal.returns-clause-boxes
returns-clause-boxes c =
    subst (λ (v : CullWork). GoesByBoxes v.lens v.copy c.cull_load.new.copy c.args.load c.cull_load.new.load) c.self.view_is
    c.cull_load.ensures.by_boxes
