use Rattle.std.proofs.Common.{◌≡◌, ◌-◌}
use Rattle.pf_model.specs.ShownPlaces.{places}
use Rattle.nearest_hit.specs.Ways.{steps_along}
use Rattle.nearest_hit.specs.Working.{Sight, Findings, over, probed}
use Rattle.nearest_hit.proofs.walk.+probe_from.Given as goal

abbrev pub decreases-probe_from : goal.decreases-probe_from
decreases-probe_from g l = l.levels

abbrev pub invariant-loop-place : goal.invariant-loop-place
invariant-loop-place g l =
    let s : Sight = record { look = g.V.NodeView.look l.scene; boxes = g.V.SceneView.boxes l.scene; time = l.fn.time; segment = l.segment } in
    let start : Findings = record { place = l.initial.found.place; best = l.initial.found.best; tests = l.initial.steps } in
    let there : Findings = record { place = l.found.place; best = l.found.best; tests = l.steps } in
    there ≡ over (probed (l.levels - 1) s) (steps_along l.lower) start (places l.children l.from (l.place - l.from))
