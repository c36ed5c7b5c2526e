use Rattle.std.proofs.Common.{refl}
use Rattle.frame_stages.proofs.CullKept.{came_none}
use Rattle.frame_stages.proofs.cull_stage.CullStage.poll.Goals as goal

pub returns-then-self-clause-boxes : goal.returns-then-self-clause-boxes
returns-then-self-clause-boxes g c =
    let taken = g.T.TakeEnd.taken c.args.from.now in
    came_none c.args.self.now.lens c.args.self.now.copy c.args.self.now.copy c.args.self.now.held taken taken refl refl

pub returns-then-is_stopped-clause-boxes : goal.returns-then-is_stopped-clause-boxes
returns-then-is_stopped-clause-boxes g c =
    let taken = g.T.TakeEnd.taken c.args.from.now in
    came_none c.args.self.now.lens c.args.self.now.copy c.args.self.now.copy c.args.self.now.held taken taken refl refl
