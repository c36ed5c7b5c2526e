use Rattle.cull_walk.specs.Working.{Scene}
use Rattle.stream_stages.specs.Underway.{walking_of, sight_of}
use Rattle.stream_stages.specs.Fills.{walk_turn, GoesTo}
use Rattle.stream_stages.proofs.FillTurns.{in_hand}
use Rattle.stream_stages.proofs.Measure.{left_to_do}
use Rattle.stream_stages.proofs.PassLaws.{IsPassing}
use Rattle.stream_stages.proofs.streams.pass_opaque.Given as goal

abbrev pub invariant-loop-waiting : goal.invariant-loop-waiting
invariant-loop-waiting g l =
    let s : Scene = sight_of (g.V.NodeView.look l.scene) (g.V.SceneView.boxes l.scene) l.fn.sight in
    record {
      passing : IsPassing s l.fn.most l.fn.sight l.fn.route l.route l.fn.list l.list l.fn.steps l.steps;
      turns : GoesTo (walk_turn s l.fn.most) (in_hand l.fn.sight l.fn.route l.fn.list l.fn.steps) (in_hand l.fn.sight l.route l.list l.steps);
    }

abbrev pub decreases-loop-waiting : goal.decreases-loop-waiting
decreases-loop-waiting g l =
    let s : Scene = sight_of (g.V.NodeView.look l.scene) (g.V.SceneView.boxes l.scene) l.fn.sight in
    left_to_do s (walking_of l.fn.sight l.route)
