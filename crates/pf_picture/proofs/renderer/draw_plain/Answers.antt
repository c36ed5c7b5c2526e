use Rattle.std.proofs.Common.{List, ◌++◌, ap, sym, ◌∙◌}
use Rattle.std.specs.Prelude.{map}
use Rattle.fx_math.specs.Plain.{Matrix}
use Rattle.fx_math.specs.Views.{matrix_of}
use Rattle.pf_model.specs.Walks as walks
use Rattle.pf_model.specs.Walks.{steps_of_view}
use Rattle.tri_cover.specs.Picture.{picture}
use Rattle.pf_picture.specs.Instances.{instance_of}
use Rattle.tri_cover.specs.Labels.{renumbered}
use Rattle.pf_picture.specs.Walking.{instance_of_leaf, drawn_in}
use Rattle.pf_picture.specs.declared.leaves.Leaf.{Leaf}
use Rattle.pf_picture.proofs.Extent.{few_leaves, instances-numbered}
use Rattle.pf_picture.proofs.renderer.draw_plain.Goals as goal

pub numbered-requires : goal.numbered-requires
numbered-requires g c =
    let look = g.V.NodeView.look c.args.scene.now in
    few_leaves look c.args.time (map matrix_of c.steps.result) c.deref.result.now c.requires
    (ap (map instance_of_leaf) c.deref.ensures.value ∙ c.in_ok-walk.ensures ∙ ap (λ (ls : List Leaf). map instance_of_leaf ls ++ drawn_in 32 look c.args.time 0 (map matrix_of c.steps.result) 0) c.new-leaves.ensures.items)

pub returns-clause-pixels : goal.returns-clause-pixels
returns-clause-pixels g c = λ px py in_row in_picture.
    let look = g.V.NodeView.look c.args.scene.now in
    c.in_ok-image.ensures.pixels px py in_row in_picture
    ∙ ap (λ (xs : List walks.Instance). picture c.args.lens.now c.args.back xs px py)
    (ap (map instance_of) c.deref-2.ensures.value
    ∙ c.in_ok-instances.ensures
    ∙ ap renumbered (ap (map instance_of_leaf) c.deref.ensures.value ∙ c.in_ok-walk.ensures
    ∙ ap (λ (ls : List Leaf). map instance_of_leaf ls ++ drawn_in 32 look c.args.time 0 (map matrix_of c.steps.result) 0) c.new-leaves.ensures.items
    ∙ ap (λ (ms : List Matrix). drawn_in 32 look c.args.time 0 ms 0) c.steps.ensures)
    ∙ sym (instances-numbered look c.args.time c.args.view.now))
