use Rattle.std.proofs.Common.{◌≡◌, Some, None, refl, rules}
use Rattle.cull_walk.specs.Working.{Scene}
use Rattle.stream_stages.specs.declared.routes.Route.{Route}
use Rattle.stream_stages.specs.declared.routes.Sight.{Sight}
use Rattle.stream_stages.specs.Underway.{sight_of, walking_of}
use Rattle.stream_stages.specs.Filled.{Passes, sent_to_there}
use Rattle.stream_stages.proofs.FillTurns.{fills_glass, fills_walk, fills_both}
use Rattle.stream_stages.proofs.Visits.{counts_kept}
use Rattle.stream_stages.proofs.Passing.{passes_both}
use Rattle.stream_stages.proofs.PassLaws.{pass_from, can_from, pass_ordered, nothing_ahead}
use Rattle.stream_stages.proofs.streams.pass.Goals as goal

pub returns-in-Some-clause-passes : goal.returns-in-Some-clause-passes
returns-in-Some-clause-passes g c = λ can.
    let s : Scene = sight_of (g.V.NodeView.look c.args.scene.now) (g.V.SceneView.boxes c.args.scene.now) c.args.sight.now in
    let is : c.args.route.now.sent ≡ Some c.in-Some.sent = search rules in
    pass_from s c.args.most c.args.sight.now c.args.route.now c.pass_glass.new.route c.in-Some.sent c.args.list.now c.pass_glass.new.list c.args.steps.now is
    (λ from. c.pass_glass.ensures.passes s c.args.sight.now c.args.steps.now refl from) can

pub returns-in-Some-clause-over : goal.returns-in-Some-clause-over
returns-in-Some-clause-over g c = λ can done.
    let s : Scene = sight_of (g.V.NodeView.look c.args.scene.now) (g.V.SceneView.boxes c.args.scene.now) c.args.sight.now in
    let is : c.args.route.now.sent ≡ Some c.in-Some.sent = search rules in
    let passed : Passes s c.args.most (sent_to_there (walking_of c.args.sight.now c.args.route.now) c.in-Some.sent) (walking_of c.args.sight.now c.pass_glass.new.route) c.args.list.now c.pass_glass.new.list c.args.steps.now c.args.steps.now =
    c.pass_glass.ensures.passes s c.args.sight.now c.args.steps.now refl (can_from s c.args.most c.args.sight.now c.args.route.now c.in-Some.sent c.args.list.now is can) in
    (c.pass_glass.ensures.over s c.args.sight.now done, nothing_ahead s c.args.most (walking_of c.args.sight.now c.pass_glass.new.route) c.pass_glass.new.list passed.next c.pass_glass.ensures.begun)

pub returns-in-Some-clause-full : goal.returns-in-Some-clause-full
returns-in-Some-clause-full g c = λ can done.
    let s : Scene = sight_of (g.V.NodeView.look c.args.scene.now) (g.V.SceneView.boxes c.args.scene.now) c.args.sight.now in
    let is : c.args.route.now.sent ≡ Some c.in-Some.sent = search rules in
    c.pass_glass.ensures.full s c.args.sight.now refl (can_from s c.args.most c.args.sight.now c.args.route.now c.in-Some.sent c.args.list.now is can) done

pub returns-else-not-pass_opaque-clause-passes : goal.returns-else-not-pass_opaque-clause-passes
returns-else-not-pass_opaque-clause-passes g c = λ can.
    let s : Scene = sight_of (g.V.NodeView.look c.args.scene.now) (g.V.SceneView.boxes c.args.scene.now) c.args.sight.now in
    let a : Sight = c.args.sight.now in
    let r : Route = c.args.route.now in
    let q : Route = c.pass_opaque.new.route in
    let t : Route = record q { glass = c.put_in_order.new.glass } in
    let none : r.sent ≡ None = search rules in
    let ordered : Passes s c.args.most (walking_of a r) (sent_to_there (walking_of a t) 0) c.args.list.now c.pass_opaque.new.list c.args.steps.now c.pass_opaque.new.steps =
    pass_ordered s c.args.most a r q t c.args.list.now c.pass_opaque.new.list c.args.steps.now c.pass_opaque.new.steps (c.pass_opaque.ensures.passes can none) (c.pass_opaque.ensures.sent can none)
    (c.if-not-pass_opaque.ensures.over can none refl) refl c.put_in_order.ensures.permutation c.put_in_order.ensures.sorted in
    passes_both s c.args.most (walking_of a r) (sent_to_there (walking_of a t) 0) (walking_of a c.pass_glass-in-None.new.route) c.args.list.now c.pass_opaque.new.list c.pass_glass-in-None.new.list c.args.steps.now c.pass_opaque.new.steps c.pass_opaque.new.steps
    ordered (c.pass_glass-in-None.ensures.passes s a c.pass_opaque.new.steps refl ordered.next)

pub returns-else-not-pass_opaque-clause-over : goal.returns-else-not-pass_opaque-clause-over
returns-else-not-pass_opaque-clause-over g c = λ can done.
    let s : Scene = sight_of (g.V.NodeView.look c.args.scene.now) (g.V.SceneView.boxes c.args.scene.now) c.args.sight.now in
    let a : Sight = c.args.sight.now in
    let r : Route = c.args.route.now in
    let q : Route = c.pass_opaque.new.route in
    let t : Route = record q { glass = c.put_in_order.new.glass } in
    let none : r.sent ≡ None = search rules in
    let ordered : Passes s c.args.most (walking_of a r) (sent_to_there (walking_of a t) 0) c.args.list.now c.pass_opaque.new.list c.args.steps.now c.pass_opaque.new.steps =
    pass_ordered s c.args.most a r q t c.args.list.now c.pass_opaque.new.list c.args.steps.now c.pass_opaque.new.steps (c.pass_opaque.ensures.passes can none) (c.pass_opaque.ensures.sent can none)
    (c.if-not-pass_opaque.ensures.over can none refl) refl c.put_in_order.ensures.permutation c.put_in_order.ensures.sorted in
    let passed : Passes s c.args.most (sent_to_there (walking_of a t) 0) (walking_of a c.pass_glass-in-None.new.route) c.pass_opaque.new.list c.pass_glass-in-None.new.list c.pass_opaque.new.steps c.pass_opaque.new.steps =
    c.pass_glass-in-None.ensures.passes s a c.pass_opaque.new.steps refl ordered.next in
    (c.pass_glass-in-None.ensures.over s a done, nothing_ahead s c.args.most (walking_of a c.pass_glass-in-None.new.route) c.pass_glass-in-None.new.list passed.next c.pass_glass-in-None.ensures.begun)

pub returns-else-not-pass_opaque-clause-full : goal.returns-else-not-pass_opaque-clause-full
returns-else-not-pass_opaque-clause-full g c = λ can done.
    let s : Scene = sight_of (g.V.NodeView.look c.args.scene.now) (g.V.SceneView.boxes c.args.scene.now) c.args.sight.now in
    let a : Sight = c.args.sight.now in
    let r : Route = c.args.route.now in
    let q : Route = c.pass_opaque.new.route in
    let t : Route = record q { glass = c.put_in_order.new.glass } in
    let none : r.sent ≡ None = search rules in
    let ordered : Passes s c.args.most (walking_of a r) (sent_to_there (walking_of a t) 0) c.args.list.now c.pass_opaque.new.list c.args.steps.now c.pass_opaque.new.steps =
    pass_ordered s c.args.most a r q t c.args.list.now c.pass_opaque.new.list c.args.steps.now c.pass_opaque.new.steps (c.pass_opaque.ensures.passes can none) (c.pass_opaque.ensures.sent can none)
    (c.if-not-pass_opaque.ensures.over can none refl) refl c.put_in_order.ensures.permutation c.put_in_order.ensures.sorted in
    c.pass_glass-in-None.ensures.full s a refl ordered.next done

pub returns-in-Some-clause-visits : goal.returns-in-Some-clause-visits
returns-in-Some-clause-visits g c =
    let a : Sight = c.args.sight.now in
    counts_kept (walking_of a c.args.route.now) (walking_of a c.args.route.now) (walking_of a c.pass_glass.new.route) c.args.steps.now c.args.steps.now
    (λ few. (few, refl)) c.pass_glass.ensures.visited

pub returns-else-not-pass_opaque-clause-visits : goal.returns-else-not-pass_opaque-clause-visits
returns-else-not-pass_opaque-clause-visits g c =
    let a : Sight = c.args.sight.now in
    counts_kept (walking_of a c.args.route.now) (walking_of a c.pass_opaque.new.route) (walking_of a c.pass_glass-in-None.new.route) c.args.steps.now c.pass_opaque.new.steps
    c.pass_opaque.ensures.visits c.pass_glass-in-None.ensures.visited

pub returns-in-Some-clause-fills : goal.returns-in-Some-clause-fills
returns-in-Some-clause-fills g c =
    let s : Scene = sight_of (g.V.NodeView.look c.args.scene.now) (g.V.SceneView.boxes c.args.scene.now) c.args.sight.now in
    let is : c.args.route.now.sent ≡ Some c.in-Some.sent = search rules in
    fills_glass s c.args.most c.args.sight.now c.args.route.now c.in-Some.sent c.args.list.now c.args.steps.now c.pass_glass.result _ is (c.pass_glass.ensures.turns c.args.sight.now c.args.steps.now)

pub returns-then-not-pass_opaque-clause-fills : goal.returns-then-not-pass_opaque-clause-fills
returns-then-not-pass_opaque-clause-fills g c =
    let s : Scene = sight_of (g.V.NodeView.look c.args.scene.now) (g.V.SceneView.boxes c.args.scene.now) c.args.sight.now in
    let none : c.args.route.now.sent ≡ None = search rules in
    fills_walk s c.args.most c.args.sight.now c.args.route.now c.args.list.now c.args.steps.now _ none c.if-not-pass_opaque.ensures.turns

pub returns-else-not-pass_opaque-clause-fills : goal.returns-else-not-pass_opaque-clause-fills
returns-else-not-pass_opaque-clause-fills g c =
    let s : Scene = sight_of (g.V.NodeView.look c.args.scene.now) (g.V.SceneView.boxes c.args.scene.now) c.args.sight.now in
    let none : c.args.route.now.sent ≡ None = search rules in
    fills_both s c.args.most c.args.sight.now c.args.route.now c.pass_opaque.new.route (record c.pass_opaque.new.route { glass = c.put_in_order.new.glass }) c.args.list.now c.pass_opaque.new.list c.args.steps.now c.pass_opaque.new.steps c.pass_glass-in-None.result _ none
    c.if-not-pass_opaque.ensures.turns refl c.put_in_order.ensures.permutation c.put_in_order.ensures.sorted (c.pass_glass-in-None.ensures.turns c.args.sight.now c.pass_opaque.new.steps)
