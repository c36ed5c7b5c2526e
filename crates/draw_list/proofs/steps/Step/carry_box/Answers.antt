use Rattle.std.proofs.Common.{◌≡◌, sym, subst}
use Rattle.fx_math.specs.Views.{bounds_of}
use Rattle.fx_math.specs.Fixed.{apply_box}
use Rattle.draw_list.specs.Steps.{step_matrix}
use Rattle.draw_list.specs.declared.steps.Step.{Step}
use Rattle.draw_list.proofs.BoxSteps.{apply_box-identity}
use Rattle.draw_list.proofs.steps.Step.carry_box.Goals as goal

pub returns-in-Still : goal.returns-in-Still
returns-in-Still c =
    let b = c.args.b.now in
    subst (λ (s : Step). bounds_of b ≡ apply_box (step_matrix s) (bounds_of b)) (sym c.in-Still.is)
    (sym (apply_box-identity (bounds_of b) b.ordered b.lo.in_range b.hi.in_range))
