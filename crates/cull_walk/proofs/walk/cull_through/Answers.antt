use Rattle.std.proofs.Common.{◌≡◌, length, List, ◌∙◌, ap, arith}
use Rattle.fx_math.specs.Plain.{Matrix}
use Rattle.draw_list.specs.Joints.{steps_at}
use Rattle.draw_list.specs.Lists.{Drawables}
use Rattle.cull_walk.specs.Working.{Work, Scene, culled, root}
use Rattle.cull_walk.proofs.Whole.{IsCulled, from_cleared}
use Rattle.cull_walk.proofs.Rooms.{KeepsRoom, emptied_is, walked_room}
use Rattle.cull_walk.proofs.walk.cull_through.Goals as goal

pub returns-clause-walk : goal.returns-clause-walk
returns-clause-walk g c =
    let s : Scene = record { look = g.V.NodeView.look c.args.scene.now; boxes = g.V.SceneView.boxes c.args.scene.now; lens = g.F.Frustum.lens c.args.frustum.now; time = c.args.time } in
    c.cull_from.ensures.work
    ∙ ap (λ (d : Drawables). culled 32 s (record { list = d; tests = c.args.steps.now; visited = 0 }) root)
    (emptied_is c.args.view.now c.args.out.now c.clear.new.self c.clear.ensures.joints c.clear.ensures.items c.clear.ensures.tris c.clear.ensures.spans c.clear.ensures.span_count
    c.clear.ensures.joint_room c.clear.ensures.item_room c.clear.ensures.tri_room)

pub returns-clause-list : goal.returns-clause-list
returns-clause-list g c = λ can.
    let s : Scene = record { look = g.V.NodeView.look c.args.scene.now; boxes = g.V.SceneView.boxes c.args.scene.now; lens = g.F.Frustum.lens c.args.frustum.now; time = c.args.time } in
    let u : Work = record { list = c.cull_from.new.out; tests = c.cull_from.new.steps; visited = c.cull_from.new.visited } in
    let it : IsCulled s c.args.view.now (record { list = c.clear.new.self; tests = c.args.steps.now; visited = 0 }) u =
    from_cleared s c.args.view.now c.args.out.now c.clear.new.self c.args.steps.now u can
    (record { joints = c.clear.ensures.joints; items = c.clear.ensures.items; spans = c.clear.ensures.spans; wide = c.clear.ensures.places })
    c.clear.ensures.item_room c.clear.ensures.joint_room c.clear.ensures.tri_room c.cull_from.ensures.work in
    it.list

pub returns-clause-numbers : goal.returns-clause-numbers
returns-clause-numbers g c = λ can.
    let s : Scene = record { look = g.V.NodeView.look c.args.scene.now; boxes = g.V.SceneView.boxes c.args.scene.now; lens = g.F.Frustum.lens c.args.frustum.now; time = c.args.time } in
    let u : Work = record { list = c.cull_from.new.out; tests = c.cull_from.new.steps; visited = c.cull_from.new.visited } in
    let it : IsCulled s c.args.view.now (record { list = c.clear.new.self; tests = c.args.steps.now; visited = 0 }) u =
    from_cleared s c.args.view.now c.args.out.now c.clear.new.self c.args.steps.now u can
    (record { joints = c.clear.ensures.joints; items = c.clear.ensures.items; spans = c.clear.ensures.spans; wide = c.clear.ensures.places })
    c.clear.ensures.item_room c.clear.ensures.joint_room c.clear.ensures.tri_room c.cull_from.ensures.work in
    λ i. record { shown = (c.len.ensures.value ∙ it.count) i; states = (c.states.ensures ∙ it.states) i; visited = it.visits i }

pub returns-clause-tests : goal.returns-clause-tests
returns-clause-tests g c = λ can.
    let s : Scene = record { look = g.V.NodeView.look c.args.scene.now; boxes = g.V.SceneView.boxes c.args.scene.now; lens = g.F.Frustum.lens c.args.frustum.now; time = c.args.time } in
    let u : Work = record { list = c.cull_from.new.out; tests = c.cull_from.new.steps; visited = c.cull_from.new.visited } in
    let it : IsCulled s c.args.view.now (record { list = c.clear.new.self; tests = c.args.steps.now; visited = 0 }) u =
    from_cleared s c.args.view.now c.args.out.now c.clear.new.self c.args.steps.now u can
    (record { joints = c.clear.ensures.joints; items = c.clear.ensures.items; spans = c.clear.ensures.spans; wide = c.clear.ensures.places })
    c.clear.ensures.item_room c.clear.ensures.joint_room c.clear.ensures.tri_room c.cull_from.ensures.work in
    it.tests

pub returns-clause-joint_zero : goal.returns-clause-joint_zero
returns-clause-joint_zero g c =
    let s : Scene = record { look = g.V.NodeView.look c.args.scene.now; boxes = g.V.SceneView.boxes c.args.scene.now; lens = g.F.Frustum.lens c.args.frustum.now; time = c.args.time } in
    let u : Work = record { list = c.cull_from.new.out; tests = c.cull_from.new.steps; visited = c.cull_from.new.visited } in
    let keeps : KeepsRoom c.clear.new.self c.cull_from.new.out = walked_room s c.clear.new.self c.args.steps.now 0 root u c.cull_from.ensures.work in
    let one : length c.clear.new.self.joints.lists ≡ 1 = ap length c.clear.ensures.joints in
    keeps.steps 0 (omega (arith, one)) ∙ ap (λ (ls : List (List Matrix)). steps_at ls 0) c.clear.ensures.joints

pub returns-clause-item_room : goal.returns-clause-item_room
returns-clause-item_room g c =
    let s : Scene = record { look = g.V.NodeView.look c.args.scene.now; boxes = g.V.SceneView.boxes c.args.scene.now; lens = g.F.Frustum.lens c.args.frustum.now; time = c.args.time } in
    let u : Work = record { list = c.cull_from.new.out; tests = c.cull_from.new.steps; visited = c.cull_from.new.visited } in
    let keeps : KeepsRoom c.clear.new.self c.cull_from.new.out = walked_room s c.clear.new.self c.args.steps.now 0 root u c.cull_from.ensures.work in
    let none : length c.clear.new.self.items.items ≡ 0 = ap length c.clear.ensures.items in
    omega (arith, keeps.items, none, c.clear.ensures.item_room)

pub returns-clause-joint_room : goal.returns-clause-joint_room
returns-clause-joint_room g c =
    let s : Scene = record { look = g.V.NodeView.look c.args.scene.now; boxes = g.V.SceneView.boxes c.args.scene.now; lens = g.F.Frustum.lens c.args.frustum.now; time = c.args.time } in
    let u : Work = record { list = c.cull_from.new.out; tests = c.cull_from.new.steps; visited = c.cull_from.new.visited } in
    let keeps : KeepsRoom c.clear.new.self c.cull_from.new.out = walked_room s c.clear.new.self c.args.steps.now 0 root u c.cull_from.ensures.work in
    let one : length c.clear.new.self.joints.lists ≡ 1 = ap length c.clear.ensures.joints in
    omega (arith, keeps.joints, one, c.clear.ensures.joint_room)

pub returns-clause-tri_room : goal.returns-clause-tri_room
returns-clause-tri_room g c =
    let s : Scene = record { look = g.V.NodeView.look c.args.scene.now; boxes = g.V.SceneView.boxes c.args.scene.now; lens = g.F.Frustum.lens c.args.frustum.now; time = c.args.time } in
    let u : Work = record { list = c.cull_from.new.out; tests = c.cull_from.new.steps; visited = c.cull_from.new.visited } in
    let keeps : KeepsRoom c.clear.new.self c.cull_from.new.out = walked_room s c.clear.new.self c.args.steps.now 0 root u c.cull_from.ensures.work in
    let none : length c.clear.new.self.kept.tris ≡ 0 = ap length c.clear.ensures.tris in
    omega (arith, keeps.tris, none, c.clear.ensures.tri_room)
