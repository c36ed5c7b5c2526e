use Rattle.std.proofs.Common.{◌≡◌, ◌-◌, length, ap, sym, subst, arith}
use Rattle.draw_list.specs.Steps.{view_matrices}
use Rattle.draw_list.specs.Joints.{JointList, AreBefore}
use Rattle.draw_list.proofs.StepLists.{length_lists, before-push, answered}
use Rattle.draw_list.proofs.joints.Joints.push.Goals as goal

pub invariant_of-self : goal.invariant_of-self
invariant_of-self c = (
  subst (AreBefore 1) (sym c.in-Ok.ensures.items)
      (before-push 1 c.self.inside.joints.items _ c.self.invariant.0
      (omega (
        arith,
        c.requires,
        length_lists (view_matrices c.self.inside.view) c.self.inside.joints.items,
        ap (λ (d : JointList). length d.lists) c.self.view_is,
      ))),
  grind (arith, c.in-Ok.ensures.len, c.self.invariant.1, c.len-len.ensures, c.if-len-self.false),
  omega (arith, c.in-Ok.ensures.capacity, c.self.invariant.2),
  c.self.invariant.3,
)

pub returns-clause-answer : goal.returns-clause-answer
returns-clause-answer c =
    answered c.args.pose c.len-len.result c.args.self.now.spare (length c.args.self.now.lists)
    (let room : c.self.inside.room - c.self.inside.joints.len ≡ c.args.self.now.spare = ap (λ (d : JointList). d.spare) c.self.view_is in
    grind (arith, room, c.self.invariant.1, c.len-len.ensures, c.if-len-self.false))
    (omega (
      arith,
      c.len-len.ensures,
      c.self.inside.joints.ok.0,
      length_lists (view_matrices c.self.inside.view) c.self.inside.joints.items,
      ap (λ (d : JointList). length d.lists) c.self.view_is,
    ))
