use Rattle.std.proofs.Common.{◌≡◌, ◌<◌, length, Some, None, sym, arith, rules}
use Rattle.cull_walk.specs.Working.{Scene}
use Rattle.stream_stages.specs.Underway.{sight_of}
use Rattle.stream_stages.proofs.FillTurns.{walk_held, walk_full, walk_step, walk_over, walk_many}
use Rattle.stream_stages.proofs.PassLaws.{passing_held, passing_step, passing_over, passing_left, passing_room, passing_less}
use Rattle.stream_stages.proofs.streams.pass_opaque.Goals as goal

pub returns-then-not-send-clause-room : goal.returns-then-not-send-clause-room
returns-then-not-send-clause-room g c =
    let s : Scene = sight_of (g.V.NodeView.look c.args.scene.now) (g.V.SceneView.boxes c.args.scene.now) c.args.sight.now in
    passing_room s c.args.most c.args.sight.now c.args.route.now c.loop-waiting.route c.args.list.now c.loop-waiting.list c.send.new.out c.args.steps.now c.loop-waiting.steps c.in-Some.waiting c.loop-waiting.invariant.passing c.send.ensures.list

pub returns-then-not-send-clause-passes : goal.returns-then-not-send-clause-passes
returns-then-not-send-clause-passes g c = λ can none.
    let s : Scene = sight_of (g.V.NodeView.look c.args.scene.now) (g.V.SceneView.boxes c.args.scene.now) c.args.sight.now in
    let held : c.loop-waiting.route.held ≡ Some c.in-Some.waiting = search rules in
    (passing_left s c.args.most c.args.sight.now c.args.route.now c.loop-waiting.route c.args.list.now c.loop-waiting.list c.send.new.out c.args.steps.now c.loop-waiting.steps c.in-Some.waiting c.loop-waiting.invariant.passing held
    (omega (arith, c.loop-waiting-test.true, c.len.ensures.value)) c.send.ensures.list (sym c.if-not-send.ensures.done) can none).0

pub returns-then-not-send-clause-full : goal.returns-then-not-send-clause-full
returns-then-not-send-clause-full g c = λ can none left.
    let s : Scene = sight_of (g.V.NodeView.look c.args.scene.now) (g.V.SceneView.boxes c.args.scene.now) c.args.sight.now in
    let held : c.loop-waiting.route.held ≡ Some c.in-Some.waiting = search rules in
    (passing_left s c.args.most c.args.sight.now c.args.route.now c.loop-waiting.route c.args.list.now c.loop-waiting.list c.send.new.out c.args.steps.now c.loop-waiting.steps c.in-Some.waiting c.loop-waiting.invariant.passing held
    (omega (arith, c.loop-waiting-test.true, c.len.ensures.value)) c.send.ensures.list (sym c.if-not-send.ensures.done) can none).1

pub loop-waiting-preserved-in-Some : goal.loop-waiting-preserved-in-Some
loop-waiting-preserved-in-Some g c =
    let s : Scene = sight_of (g.V.NodeView.look c.args.scene.now) (g.V.SceneView.boxes c.args.scene.now) c.args.sight.now in
    let held : c.loop-waiting.route.held ≡ Some c.in-Some.waiting = search rules in
    let few : length c.loop-waiting.list.items.items < c.args.most = omega (arith, c.loop-waiting-test.true, c.len.ensures.value) in
    record {
      passing = passing_held s c.args.most c.args.sight.now c.args.route.now c.loop-waiting.route c.args.list.now c.loop-waiting.list c.send.new.out c.args.steps.now c.loop-waiting.steps c.in-Some.waiting c.loop-waiting.invariant.passing held
          few c.send.ensures.list (sym c.if-not-send.ensures.done);
      turns = walk_held s c.args.most c.args.sight.now c.args.route.now c.loop-waiting.route c.args.list.now c.loop-waiting.list c.send.new.out c.args.steps.now c.loop-waiting.steps c.in-Some.waiting c.loop-waiting.invariant.turns held
          few c.send.ensures.list (sym c.if-not-send.ensures.done);
    }

pub returns-then-not-step-clause-passes : goal.returns-then-not-step-clause-passes
returns-then-not-step-clause-passes g c =
    let s : Scene = sight_of (g.V.NodeView.look c.args.scene.now) (g.V.SceneView.boxes c.args.scene.now) c.args.sight.now in
    let held : c.loop-waiting.route.held ≡ None = search rules in
    (passing_step s c.args.most c.args.sight.now c.args.route.now c.loop-waiting.route c.step.new.route c.args.list.now c.loop-waiting.list c.args.steps.now c.loop-waiting.steps c.step.new.steps c.step.result c.loop-waiting.invariant.passing held
    c.step.ensures.sound c.step.ensures.walk).passes

pub returns-then-not-step-clause-over : goal.returns-then-not-step-clause-over
returns-then-not-step-clause-over g c = λ can none done.
    let s : Scene = sight_of (g.V.NodeView.look c.args.scene.now) (g.V.SceneView.boxes c.args.scene.now) c.args.sight.now in
    let held : c.loop-waiting.route.held ≡ None = search rules in
    passing_over s c.args.most c.args.sight.now c.args.route.now c.loop-waiting.route c.step.new.route c.args.list.now c.loop-waiting.list c.args.steps.now c.loop-waiting.steps c.step.new.steps c.loop-waiting.invariant.passing held
    c.if-not-step.ensures.walk can none

pub loop-waiting-preserved : goal.loop-waiting-preserved
loop-waiting-preserved g c =
    let s : Scene = sight_of (g.V.NodeView.look c.args.scene.now) (g.V.SceneView.boxes c.args.scene.now) c.args.sight.now in
    let held : c.loop-waiting.route.held ≡ None = search rules in
    record {
      passing = passing_step s c.args.most c.args.sight.now c.args.route.now c.loop-waiting.route c.step.new.route c.args.list.now c.loop-waiting.list c.args.steps.now c.loop-waiting.steps c.step.new.steps c.step.result c.loop-waiting.invariant.passing held
          c.step.ensures.sound c.step.ensures.walk;
      turns = walk_step s c.args.most c.args.sight.now c.args.route.now c.loop-waiting.route c.step.new.route c.args.list.now c.loop-waiting.list c.args.steps.now c.loop-waiting.steps c.step.new.steps c.loop-waiting.invariant.turns held
          (omega (arith, c.loop-waiting-test.true, c.len.ensures.value)) c.if-not-step.ensures.walk;
    }

pub loop-waiting-smaller : goal.loop-waiting-smaller
loop-waiting-smaller g c =
    let s : Scene = sight_of (g.V.NodeView.look c.args.scene.now) (g.V.SceneView.boxes c.args.scene.now) c.args.sight.now in
    passing_less s c.args.sight.now c.loop-waiting.route c.step.new.route c.loop-waiting.steps c.step.new.steps c.loop-waiting.invariant.passing.sound c.if-not-step.ensures.walk

pub returns-then-not-send-clause-visits : goal.returns-then-not-send-clause-visits
returns-then-not-send-clause-visits g c = c.loop-waiting.invariant.passing.visits

pub returns-then-not-step-clause-visits : goal.returns-then-not-step-clause-visits
returns-then-not-step-clause-visits g c =
    let s : Scene = sight_of (g.V.NodeView.look c.args.scene.now) (g.V.SceneView.boxes c.args.scene.now) c.args.sight.now in
    let held : c.loop-waiting.route.held ≡ None = search rules in
    (passing_step s c.args.most c.args.sight.now c.args.route.now c.loop-waiting.route c.step.new.route c.args.list.now c.loop-waiting.list c.args.steps.now c.loop-waiting.steps c.step.new.steps c.step.result c.loop-waiting.invariant.passing held
    c.step.ensures.sound c.step.ensures.walk).visits

pub returns-clause-visits : goal.returns-clause-visits
returns-clause-visits g c = c.loop-waiting.invariant.passing.visits

pub returns-then-not-send-clause-turns : goal.returns-then-not-send-clause-turns
returns-then-not-send-clause-turns g c =
    let s : Scene = sight_of (g.V.NodeView.look c.args.scene.now) (g.V.SceneView.boxes c.args.scene.now) c.args.sight.now in
    let held : c.loop-waiting.route.held ≡ Some c.in-Some.waiting = search rules in
    walk_full s c.args.most c.args.sight.now c.args.route.now c.loop-waiting.route c.args.list.now c.loop-waiting.list c.send.new.out c.args.steps.now c.loop-waiting.steps c.in-Some.waiting c.loop-waiting.invariant.turns held
    (omega (arith, c.loop-waiting-test.true, c.len.ensures.value)) c.send.ensures.list (sym c.if-not-send.ensures.done)

pub returns-then-not-step-clause-turns : goal.returns-then-not-step-clause-turns
returns-then-not-step-clause-turns g c =
    let s : Scene = sight_of (g.V.NodeView.look c.args.scene.now) (g.V.SceneView.boxes c.args.scene.now) c.args.sight.now in
    let held : c.loop-waiting.route.held ≡ None = search rules in
    walk_over s c.args.most c.args.sight.now c.args.route.now c.loop-waiting.route c.step.new.route c.args.list.now c.loop-waiting.list c.args.steps.now c.loop-waiting.steps c.step.new.steps c.loop-waiting.invariant.turns held
    (omega (arith, c.loop-waiting-test.true, c.len.ensures.value)) c.if-not-step.ensures.walk

pub returns-clause-turns : goal.returns-clause-turns
returns-clause-turns g c =
    let s : Scene = sight_of (g.V.NodeView.look c.args.scene.now) (g.V.SceneView.boxes c.args.scene.now) c.args.sight.now in
    walk_many s c.args.most c.args.sight.now c.args.route.now c.loop-waiting.route c.args.list.now c.loop-waiting.list c.args.steps.now c.loop-waiting.steps c.loop-waiting.invariant.turns
    (omega (arith, c.loop-waiting-test.false, c.len.ensures.value))
