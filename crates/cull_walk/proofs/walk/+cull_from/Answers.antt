use Rattle.std.proofs.Common.{◌≡◌, ◌∙◌, ℕ, ◌+◌, ◌-◌, ◌*◌, length, ap, arith}
use Rattle.std.specs.Prelude.{slice_index}
use Rattle.fx_math.specs.Plain.{Point, Bounds}
use Rattle.fx_math.specs.Views.{bounds_of}
use Rattle.fx_math.specs.Fixed.{carry}
use Rattle.pf_model.specs.declared.nodes.Node.{Node}
use Rattle.pf_model.specs.Kinds.{surface_of, chosen_of}
use Rattle.pf_model.specs.ShownPlaces.{places}
use Rattle.draw_list.specs.Joints.{steps_at}
use Rattle.draw_list.specs.Lists.{Drawables}
use Rattle.cull_walk.specs.Working.{Work, At, Scene, counted, own_pose, joint_below, with_below, over, culled}
use Rattle.cull_walk.proofs.Walking.{lower_list, lower_work, no_levels_left, out_of_frustum, no_node, no_joint, all_done, one_more, IsLowered, lowered}
use Rattle.cull_walk.proofs.walk.+cull_from.Goals as goal

pub returns-then-levels-eq0-clause-work : goal.returns-then-levels-eq0-clause-work
returns-then-levels-eq0-clause-work g t c =
    let s : Scene = record { look = g.V.NodeView.look c.args.scene.now; boxes = g.V.SceneView.boxes c.args.scene.now; lens = g.F.Frustum.lens c.args.frustum.now; time = c.args.time } in
    let w : Work = record { list = c.args.out.now; tests = c.args.steps.now; visited = c.args.visited.now } in
    let a : At = record { id = c.args.id; joint = c.args.joint; shift = c.args.shift } in
    no_levels_left c.args.levels s w a (omega arith)

pub returns-in_default-clause-work : goal.returns-in_default-clause-work
returns-in_default-clause-work g t c =
    let s : Scene = record { look = g.V.NodeView.look c.args.scene.now; boxes = g.V.SceneView.boxes c.args.scene.now; lens = g.F.Frustum.lens c.args.frustum.now; time = c.args.time } in
    let w : Work = record { list = c.args.out.now; tests = c.args.steps.now; visited = c.args.visited.now } in
    let a : At = record { id = c.args.id; joint = c.args.joint; shift = c.args.shift } in
    let number : c.saturating_add.result ≡ counted c.args.visited.now = omega (arith, c.saturating_add.ensures) in
    (λ i. record { list = c.args.out.now; tests = c.box_in_sight.ensures.step i; visited = number i })
    ∙ out_of_frustum c.args.levels s w a (omega arith) c.in_default.ensures.sight

pub returns-in_default-node-clause-work : goal.returns-in_default-node-clause-work
returns-in_default-node-clause-work g t c =
    let s : Scene = record { look = g.V.NodeView.look c.args.scene.now; boxes = g.V.SceneView.boxes c.args.scene.now; lens = g.F.Frustum.lens c.args.frustum.now; time = c.args.time } in
    let w : Work = record { list = c.args.out.now; tests = c.args.steps.now; visited = c.args.visited.now } in
    let a : At = record { id = c.args.id; joint = c.args.joint; shift = c.args.shift } in
    let number : c.saturating_add.result ≡ counted c.args.visited.now = omega (arith, c.saturating_add.ensures) in
    (λ i. record { list = c.args.out.now; tests = c.box_in_sight.ensures.step i; visited = number i })
    ∙ no_node c.args.levels s w a (bounds_of c.in-Some.around) (omega arith) c.in-Some.ensures.sight c.in_default-node.ensures

pub returns-in_default-lower-clause-work : goal.returns-in_default-lower-clause-work
returns-in_default-lower-clause-work g t c =
    let s : Scene = record { look = g.V.NodeView.look c.args.scene.now; boxes = g.V.SceneView.boxes c.args.scene.now; lens = g.F.Frustum.lens c.args.frustum.now; time = c.args.time } in
    let w : Work = record { list = c.args.out.now; tests = c.args.steps.now; visited = c.args.visited.now } in
    let a : At = record { id = c.args.id; joint = c.args.joint; shift = c.args.shift } in
    let number : c.saturating_add.result ≡ counted c.args.visited.now = omega (arith, c.saturating_add.ensures) in
    let n : Node = c.in-Some-node.node.now in
    let around : Bounds = bounds_of c.in-Some.around in
    let list : c.lower.new.out ≡ lower_list w a around n = c.lower.ensures.list ∙ ap (λ (d : Drawables). with_below c.args.joint d (own_pose n.kind)) c.show.ensures in
    (λ i. record { list = list i; tests = c.box_in_sight.ensures.step i; visited = number i })
    ∙ no_joint c.args.levels s w a around n (omega arith) c.in-Some.ensures.sight c.in-Some-node.ensures
    (c.in_default-lower.ensures.joint ∙ ap (λ (d : Drawables). joint_below c.args.joint d (own_pose n.kind)) c.show.ensures)

pub loop-place-init : goal.loop-place-init
loop-place-init g t c =
    let s : Scene = record { look = g.V.NodeView.look c.args.scene.now; boxes = g.V.SceneView.boxes c.args.scene.now; lens = g.F.Frustum.lens c.args.frustum.now; time = c.args.time } in
    let w : Work = record { list = c.args.out.now; tests = c.args.steps.now; visited = c.args.visited.now } in
    let a : At = record { id = c.args.id; joint = c.args.joint; shift = c.args.shift } in
    let n : Node = c.in-Some-node.node.now in
    let start : Work = record { list = c.lower.new.out; tests = c.box_in_sight.new.steps; visited = c.saturating_add.result } in
    let low : IsLowered c.args.out.now c.in-Some-lower.below c.lower.new.out =
    lowered a (bounds_of c.in-Some.around) c.args.out.now c.show.new.out c.lower.new.out (surface_of n.kind) (own_pose n.kind) c.in-Some-lower.below
    c.requires.joint c.show.ensures c.lower.ensures.list c.in-Some-lower.ensures.joint in
    let none : 0 ≡ c.shown_places-shown.result.start - c.shown_places-shown.result.start = omega arith in (
      low.there,
      low.longer,
      ap (λ (k : ℕ). over (culled (c.args.levels - 1) s) start a n c.in-Some-lower.below (places c.as_slice-children.result.now c.shown_places-shown.result.start k)) none,
    )

pub loop-place-preserved : goal.loop-place-preserved
loop-place-preserved g t c =
    let s : Scene = record { look = g.V.NodeView.look c.args.scene.now; boxes = g.V.SceneView.boxes c.args.scene.now; lens = g.F.Frustum.lens c.args.frustum.now; time = c.args.time } in
    let w : Work = record { list = c.args.out.now; tests = c.args.steps.now; visited = c.args.visited.now } in
    let a : At = record { id = c.args.id; joint = c.args.joint; shift = c.args.shift } in
    let n : Node = c.in-Some-node.node.now in
    let start : Work = record { list = c.lower.new.out; tests = c.box_in_sight.new.steps; visited = c.saturating_add.result } in
    let current : Work = record { list = c.loop-place.out; tests = c.loop-place.steps; visited = c.loop-place.visited } in
    let next : Work = record { list = c.cull_from.new.out; tests = c.cull_from.new.steps; visited = c.cull_from.new.visited } in
    let child : ℕ = slice_index c.as_slice-children.result.now c.loop-place.place in (
      omega (arith, c.loop-place.invariant.0, c.cull_from.ensures.grows),
      omega (arith, c.loop-place.invariant.1, c.cull_from.ensures.grows),
      one_more (culled (c.args.levels - 1) s) start current next a n c.in-Some-lower.below c.as_slice-children.result.now c.shown_places-shown.result.start c.loop-place.place (omega arith)
          c.loop-place.invariant.2
          (c.cull_from.ensures.work
          ∙ ap (λ (d : ℕ). culled (c.args.levels - 1) s current (record { id = child; joint = c.in-Some-lower.below; shift = c.args.shift + d * c.loop-place.place })) c.decal.ensures.value),
    )

pub returns-clause-work : goal.returns-clause-work
returns-clause-work g t c =
    let s : Scene = record { look = g.V.NodeView.look c.args.scene.now; boxes = g.V.SceneView.boxes c.args.scene.now; lens = g.F.Frustum.lens c.args.frustum.now; time = c.args.time } in
    let w : Work = record { list = c.args.out.now; tests = c.args.steps.now; visited = c.args.visited.now } in
    let a : At = record { id = c.args.id; joint = c.args.joint; shift = c.args.shift } in
    let number : c.saturating_add.result ≡ counted c.args.visited.now = omega (arith, c.saturating_add.ensures) in
    let n : Node = c.in-Some-node.node.now in
    let around : Bounds = bounds_of c.in-Some.around in
    let list : c.lower.new.out ≡ lower_list w a around n = c.lower.ensures.list ∙ ap (λ (d : Drawables). with_below c.args.joint d (own_pose n.kind)) c.show.ensures in
    let v : Work = record { list = c.loop-place.out; tests = c.loop-place.steps; visited = c.loop-place.visited } in
    let start : Work = record { list = c.lower.new.out; tests = c.box_in_sight.new.steps; visited = c.saturating_add.result } in
    let from : start ≡ lower_work w a around n = λ i. record { list = list i; tests = c.box_in_sight.ensures.step i; visited = number i } in
    all_done c.args.levels s w v a around n c.in-Some-lower.below c.chosen_children-chosen.result c.as_slice-children.result.now
    c.shown_places-shown.result.start c.shown_places-shown.result.end c.loop-place.place (omega arith) c.in-Some.ensures.sight c.in-Some-node.ensures
    (c.in-Some-lower.ensures.joint ∙ ap (λ (d : Drawables). joint_below c.args.joint d (own_pose n.kind)) c.show.ensures)
    (c.chosen_children-chosen.ensures ∙ ap (λ (p : Point). chosen_of n.kind p c.args.time (length n.children))
    (c.eye-centre.ensures ∙ ap (carry (steps_at c.args.out.now.joints.lists c.args.joint)) c.centre.ensures))
    c.as_slice-children.ensures.value c.shown_places-shown.ensures (omega arith)
    (c.loop-place.invariant.2
    ∙ ap (λ (u : Work). over (culled (c.args.levels - 1) s) u a n c.in-Some-lower.below
    (places c.as_slice-children.result.now c.shown_places-shown.result.start (c.loop-place.place - c.shown_places-shown.result.start))) from)
