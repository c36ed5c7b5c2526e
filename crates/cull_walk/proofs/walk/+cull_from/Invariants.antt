use Rattle.std.proofs.Common.{◌≡◌, ◌-◌, ◌<◌, ◌≤◌, length}
use Rattle.pf_model.specs.ShownPlaces.{places}
use Rattle.cull_walk.specs.Working.{Scene, Work, At, over, culled}
use Rattle.cull_walk.proofs.walk.+cull_from.Given as goal

abbrev pub decreases-cull_from : goal.decreases-cull_from
decreases-cull_from g l = l.levels

abbrev pub invariant-loop-place : goal.invariant-loop-place
invariant-loop-place g l =
    let s : Scene = record { look = g.V.NodeView.look l.scene; boxes = g.V.SceneView.boxes l.scene; lens = g.F.Frustum.lens l.frustum; time = l.fn.time } in
    let a : At = record { id = l.fn.id; joint = l.fn.joint; shift = l.fn.shift } in
    let start : Work = record { list = l.initial.out; tests = l.initial.steps; visited = l.initial.visited } in
    let there : Work = record { list = l.out; tests = l.steps; visited = l.visited } in
    (l.below < length l.out.joints.lists)
    × (length l.fn.out.joints.lists ≤ length l.out.joints.lists)
    × (there ≡ over (culled (l.levels - 1) s) start a l.node l.below (places l.children l.from (l.place - l.from)))
