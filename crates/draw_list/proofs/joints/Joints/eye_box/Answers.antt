use Rattle.std.proofs.Common.{◌≡◌, ◌∙◌, ◌<◌, length, refl, ap, arith}
use Rattle.fx_math.specs.Views.{bounds_of}
use Rattle.fx_math.specs.Fixed.{carry_box}
use Rattle.draw_list.specs.Steps.{view_matrices}
use Rattle.draw_list.specs.Joints.{JointList, steps_at}
use Rattle.draw_list.proofs.StepLists.{length_lists, box_on_way, box_arrived}
use Rattle.draw_list.proofs.joints.Joints.eye_box.Goals as goal

pub loop-at-init : goal.loop-at-init
loop-at-init c = (
  omega (
    arith,
    c.requires,
    length_lists (view_matrices c.self.inside.view) c.self.inside.joints.items,
    ap (λ (d : JointList). length d.lists) c.self.view_is,
  ),
  refl,
)

pub loop-at-smaller : goal.loop-at-smaller
loop-at-smaller c =
    let some : 0 < c.loop-at.at = omega arith in
    (box_on_way (view_matrices c.self.inside.view) c.self.inside.joints.items c.loop-at.at (bounds_of c.loop-at.around) (bounds_of c.carry_box-around.result) c.args.joint (bounds_of c.args.b.now)
    c.index-next.result.now c.self.invariant.0 some c.index-next.ensures c.carry_box-around.ensures c.loop-at.invariant).0

pub loop-at-preserved : goal.loop-at-preserved
loop-at-preserved c =
    let some : 0 < c.loop-at.at = omega arith in
    (box_on_way (view_matrices c.self.inside.view) c.self.inside.joints.items c.loop-at.at (bounds_of c.loop-at.around) (bounds_of c.carry_box-around.result) c.args.joint (bounds_of c.args.b.now)
    c.index-next.result.now c.self.invariant.0 some c.index-next.ensures c.carry_box-around.ensures c.loop-at.invariant).1

pub returns : goal.returns
returns c =
    let last : c.loop-at.at ≡ 0 = omega arith in
    box_arrived (view_matrices c.self.inside.view) c.self.inside.joints.items c.loop-at.at (bounds_of c.loop-at.around) (bounds_of c.carry_box.result) c.args.joint (bounds_of c.args.b.now)
    last c.carry_box.ensures c.loop-at.invariant
    ∙ ap (λ (d : JointList). carry_box (steps_at d.lists c.args.joint) (bounds_of c.args.b.now)) c.self.view_is
