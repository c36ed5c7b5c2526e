use Rattle.std.proofs.Common.{◌≡◌, ◌∙◌, ℕ, ◌-◌, length, ap, arith}
use Rattle.fx_math.specs.Plain.{Point}
use Rattle.fx_math.specs.Fixed.{carry}
use Rattle.pf_model.specs.declared.nodes.Node.{Node}
use Rattle.pf_model.specs.Kinds.{chosen_of}
use Rattle.pf_model.specs.ShownPlaces.{places}
use Rattle.nearest_hit.specs.Ways.{steps_along}
use Rattle.nearest_hit.specs.Working.{Sight, Findings, over, probed}
use Rattle.nearest_hit.proofs.Walking.{no_levels_left, no_node, all_done, one_more}
use Rattle.nearest_hit.proofs.walk.+probe_from.Goals as goal

pub returns-then-levels-eq0 : goal.returns-then-levels-eq0
returns-then-levels-eq0 g t c =
    let s : Sight = record { look = g.V.NodeView.look c.args.scene.now; boxes = g.V.SceneView.boxes c.args.scene.now; time = c.args.time; segment = c.args.segment.now } in
    let f : Findings = record { place = c.args.found.now.place; best = c.args.found.now.best; tests = c.args.steps.now } in
    no_levels_left c.args.levels s f c.args.id (steps_along c.args.way.now) (omega arith)

pub returns-in_default : goal.returns-in_default
returns-in_default g t c =
    let s : Sight = record { look = g.V.NodeView.look c.args.scene.now; boxes = g.V.SceneView.boxes c.args.scene.now; time = c.args.time; segment = c.args.segment.now } in
    let f : Findings = record { place = c.args.found.now.place; best = c.args.found.now.best; tests = c.args.steps.now } in
    no_node c.args.levels s f c.args.id (steps_along c.args.way.now) (omega arith) c.in_default.ensures

pub loop-place-init : goal.loop-place-init
loop-place-init g t c =
    let s : Sight = record { look = g.V.NodeView.look c.args.scene.now; boxes = g.V.SceneView.boxes c.args.scene.now; time = c.args.time; segment = c.args.segment.now } in
    let start : Findings = record { place = c.look_at.new.found.place; best = c.look_at.new.found.best; tests = c.look_at.new.steps } in
    let none : 0 ≡ c.shown_places-shown.result.start - c.shown_places-shown.result.start = omega arith in
    ap (λ (k : ℕ). over (probed (c.args.levels - 1) s) (steps_along c.below-lower.result) start (places c.as_slice-children.result.now c.shown_places-shown.result.start k)) none

pub loop-place-preserved : goal.loop-place-preserved
loop-place-preserved g t c =
    let s : Sight = record { look = g.V.NodeView.look c.args.scene.now; boxes = g.V.SceneView.boxes c.args.scene.now; time = c.args.time; segment = c.args.segment.now } in
    let start : Findings = record { place = c.look_at.new.found.place; best = c.look_at.new.found.best; tests = c.look_at.new.steps } in
    let current : Findings = record { place = c.loop-place.found.place; best = c.loop-place.found.best; tests = c.loop-place.steps } in
    let next : Findings = record { place = c.probe_from.new.found.place; best = c.probe_from.new.found.best; tests = c.probe_from.new.steps } in
    one_more (probed (c.args.levels - 1) s) (steps_along c.below-lower.result) start current next c.as_slice-children.result.now c.shown_places-shown.result.start c.loop-place.place (omega arith)
    c.loop-place.invariant c.probe_from.ensures

pub returns : goal.returns
returns g t c =
    let s : Sight = record { look = g.V.NodeView.look c.args.scene.now; boxes = g.V.SceneView.boxes c.args.scene.now; time = c.args.time; segment = c.args.segment.now } in
    let f : Findings = record { place = c.args.found.now.place; best = c.args.found.now.best; tests = c.args.steps.now } in
    let start : Findings = record { place = c.look_at.new.found.place; best = c.look_at.new.found.best; tests = c.look_at.new.steps } in
    let last : Findings = record { place = c.loop-place.found.place; best = c.loop-place.found.best; tests = c.loop-place.steps } in
    let n : Node = c.in-Some.node.now in
    all_done c.args.levels s f start last c.args.id (steps_along c.args.way.now) (steps_along c.below-lower.result) n c.chosen_children-chosen.result c.as_slice-children.result.now
    c.shown_places-shown.result.start c.shown_places-shown.result.end c.loop-place.place (omega arith) c.in-Some.ensures c.look_at.ensures c.below-lower.ensures
    (c.chosen_children-chosen.ensures ∙ ap (λ (p : Point). chosen_of n.kind p c.args.time (length n.children))
    (c.eye-centre.ensures ∙ ap (carry (steps_along c.args.way.now)) c.centre.ensures))
    c.as_slice-children.ensures.value c.shown_places-shown.ensures (omega arith) c.loop-place.invariant
