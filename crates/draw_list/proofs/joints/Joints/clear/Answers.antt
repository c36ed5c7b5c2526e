use Rattle.std.proofs.Common.{◌+◌, length, ap, arith}
use Rattle.draw_list.specs.Steps.{view_matrices}
use Rattle.draw_list.specs.Joints.{JointList}
use Rattle.draw_list.proofs.StepLists.{length_lists}
use Rattle.draw_list.proofs.joints.Joints.clear.Goals as goal

pub returns-clause-room : goal.returns-clause-room
returns-clause-room c =
    omega (
      arith,
      length_lists (view_matrices c.of-self-inside.result) c.clear.new.self.items,
      length_lists (view_matrices c.self.inside.view) c.self.inside.joints.items,
      c.clear.ensures.len,
      c.clear.new.self.ok.0,
      c.self.inside.joints.ok.0,
      c.self.invariant.1,
      ap (λ (d : JointList). d.spare + length d.lists) c.self.view_is,
    )
