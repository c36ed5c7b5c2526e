use Rattle.fx_math.specs.Views.{point_of}
use Rattle.draw_list.specs.Steps.{view_matrices}
use Rattle.draw_list.proofs.StepLists.{IsOnWay}
use Rattle.draw_list.proofs.joints.Joints.eye.Given as goal

abbrev pub invariant-loop-at : goal.invariant-loop-at
invariant-loop-at l = IsOnWay (view_matrices l.self-inside.view) l.self-inside.joints.items l.at (point_of l.point) l.fn.joint (point_of l.fn.v)

abbrev pub decreases-loop-at : goal.decreases-loop-at
decreases-loop-at l = l.at
