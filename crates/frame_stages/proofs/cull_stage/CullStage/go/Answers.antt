use Rattle.std.proofs.Common.{◌∙◌, refl, ap}
use Rattle.frame_stages.specs.CullWorks.{CullWork}
use Rattle.frame_stages.proofs.CullKept.{came_none}
use Rattle.frame_stages.proofs.cull_stage.CullStage.go.Goals as goal

pub returns-in-Some-clause-boxes : goal.returns-in-Some-clause-boxes
returns-in-Some-clause-boxes g c =
    let taken = g.T.TakeEnd.taken c.args.from.now in
    came_none c.args.self.now.lens c.args.self.now.copy c.send.new.self.copy c.send.new.self.held taken taken refl
    (c.send.ensures.copy ∙ ap (λ (w : CullWork). w.copy) c.self.view_is)
