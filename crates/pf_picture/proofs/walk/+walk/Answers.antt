use Rattle.std.proofs.Common.{◌-◌, length, ap, ◌∙◌, arith}
use Rattle.std.specs.Prelude.{map}
use Rattle.fx_math.specs.Plain.{Point}
use Rattle.fx_math.specs.Views.{matrix_of}
use Rattle.fx_math.specs.Fixed.{carry}
use Rattle.pf_model.specs.Kinds.{chosen_of}
use Rattle.pf_picture.specs.Walking.{instance_of_leaf}
use Rattle.pf_picture.proofs.Walked.{no_levels, no_node, one_more, child_drawn, all_drawn}
use Rattle.pf_picture.proofs.walk.+walk.Goals as goal

pub returns-then-levels-eq0 : goal.returns-then-levels-eq0
returns-then-levels-eq0 g t c =
    let a = c.args in
    no_levels (map instance_of_leaf a.leaves.now.items) a.levels (g.V.NodeView.look a.scene.now) a.time a.id (map matrix_of a.steps.now) a.shift (omega arith)

pub returns-in_default : goal.returns-in_default
returns-in_default g t c =
    let a = c.args in
    no_node (map instance_of_leaf a.leaves.now.items) a.levels (g.V.NodeView.look a.scene.now) a.time a.id (map matrix_of a.steps.now) a.shift c.in_default.ensures

pub loop-place-preserved : goal.loop-place-preserved
loop-place-preserved g t c =
    let a = c.args in
    one_more (child_drawn (a.levels - 1) (g.V.NodeView.look a.scene.now) a.time c.in-Some.node.now (map matrix_of c.in_ok-below.below.items) a.shift)
    (map instance_of_leaf c.push_surface.new.leaves.items) (map instance_of_leaf c.loop-place.leaves.items) (map instance_of_leaf c.walk.new.leaves.items)
    c.as_slice-children.result.now c.shown_places-shown.result.start c.loop-place.place (omega arith) c.loop-place.invariant (grind (arith, c.in_ok-walk.ensures))

pub returns : goal.returns
returns g t c =
    let a = c.args in
    all_drawn a.levels (g.V.NodeView.look a.scene.now) a.time a.id (map matrix_of a.steps.now) a.shift c.in-Some.node.now c.chosen_children-chosen.result (map matrix_of c.in_ok-below.below.items)
    c.as_slice-children.result.now c.shown_places-shown.result.start c.shown_places-shown.result.end c.loop-place.place
    (map instance_of_leaf a.leaves.now.items) (map instance_of_leaf c.push_surface.new.leaves.items) (map instance_of_leaf c.loop-place.leaves.items)
    (omega arith) c.in-Some.ensures
    (c.chosen_children-chosen.ensures ∙ ap (λ (p : Point). chosen_of c.in-Some.node.now.kind p a.time (length c.in-Some.node.now.children)) (c.carried_point-centre.ensures ∙ ap (carry (map matrix_of a.steps.now)) c.centre.ensures))
    c.in_ok-below.ensures c.as_slice-children.ensures.value c.shown_places-shown.ensures (omega arith) c.in_ok-push_surface.ensures c.loop-place.invariant
