use Rattle.std.proofs.Common.{◌∙◌, ℕ, ap}
use Rattle.pf_model.specs.Graphs.{node_at}
use Rattle.multibuffer.specs.StageCopies.{boxes_of}
use Rattle.nearest_hit.specs.Working.{Sight, searched}
use Rattle.isect_stage.proofs.stage.counted.Goals as goal

pub returns-clause-best : goal.returns-clause-best
returns-clause-best g c =
    let s : Sight = record { look = node_at c.args.copy.now.nodes; boxes = boxes_of c.args.copy.now; time = c.args.time; segment = c.args.segment.now } in
    c.probe.ensures.best ∙ ap (λ (n : ℕ). (searched s c.args.view.now n).best) c.new-steps.ensures
