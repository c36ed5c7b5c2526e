use Rattle.fx_math.specs.Views.{bounds_of}
use Rattle.draw_list.specs.Steps.{view_matrices}
use Rattle.draw_list.proofs.StepLists.{IsBoxOnWay}
use Rattle.draw_list.proofs.joints.Joints.eye_box.Given as goal

abbrev pub invariant-loop-at : goal.invariant-loop-at
invariant-loop-at l = IsBoxOnWay (view_matrices l.self-inside.view) l.self-inside.joints.items l.at (bounds_of l.around) l.fn.joint (bounds_of l.fn.b)

abbrev pub decreases-loop-at : goal.decreases-loop-at
decreases-loop-at l = l.at
