use Rattle.std.proofs.Common.{◌∙◌, None, ap}
use Rattle.nearest_hit.specs.Working.{Sight, Findings, probed}
use Rattle.nearest_hit.proofs.Exact.{nearest_found, near_tested}
use Rattle.nearest_hit.proofs.walk.probe.Goals as goal

pub returns-clause-best : goal.returns-clause-best
returns-clause-best g c =
    let s : Sight = record { look = g.V.NodeView.look c.args.scene.now; boxes = g.V.SceneView.boxes c.args.scene.now; time = c.args.time; segment = c.args.segment.now } in
    let before : Findings = record { place = 0; best = None; tests = c.args.steps.now } in
    ap (λ (f : Findings). f.best) (c.probe_from.ensures ∙ ap (probed 32 s before 0) c.of_view-way.ensures)

pub returns-clause-counted : goal.returns-clause-counted
returns-clause-counted g c =
    let s : Sight = record { look = g.V.NodeView.look c.args.scene.now; boxes = g.V.SceneView.boxes c.args.scene.now; time = c.args.time; segment = c.args.segment.now } in
    let before : Findings = record { place = 0; best = None; tests = c.args.steps.now } in
    ap (λ (f : Findings). f.tests) (c.probe_from.ensures ∙ ap (probed 32 s before 0) c.of_view-way.ensures)

pub returns-clause-nearest : goal.returns-clause-nearest
returns-clause-nearest g c = λ can.
    let s : Sight = record { look = g.V.NodeView.look c.args.scene.now; boxes = g.V.SceneView.boxes c.args.scene.now; time = c.args.time; segment = c.args.segment.now } in
    let before : Findings = record { place = 0; best = None; tests = c.args.steps.now } in
    ap (λ (f : Findings). f.best) (c.probe_from.ensures ∙ ap (probed 32 s before 0) c.of_view-way.ensures) ∙ nearest_found s c.args.view.now c.args.steps.now can

pub returns-clause-tests : goal.returns-clause-tests
returns-clause-tests g c = λ can.
    let s : Sight = record { look = g.V.NodeView.look c.args.scene.now; boxes = g.V.SceneView.boxes c.args.scene.now; time = c.args.time; segment = c.args.segment.now } in
    let before : Findings = record { place = 0; best = None; tests = c.args.steps.now } in
    ap (λ (f : Findings). f.tests) (c.probe_from.ensures ∙ ap (probed 32 s before 0) c.of_view-way.ensures) ∙ near_tested s c.args.view.now c.args.steps.now can
