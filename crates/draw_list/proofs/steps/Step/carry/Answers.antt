use Rattle.std.proofs.Common.{◌≡◌, sym, subst}
use Rattle.fx_math.specs.Views.{point_of}
use Rattle.fx_math.specs.Fixed.{apply}
use Rattle.fx_math.proofs.Still.{apply-identity}
use Rattle.draw_list.specs.Steps.{step_matrix}
use Rattle.draw_list.specs.declared.steps.Step.{Step}
use Rattle.draw_list.proofs.steps.Step.carry.Goals as goal

pub returns-in-Still : goal.returns-in-Still
returns-in-Still c =
    subst (λ (s : Step). point_of c.args.v ≡ apply (step_matrix s) (point_of c.args.v)) (sym c.in-Still.is)
    (sym (apply-identity (point_of c.args.v) c.args.v.in_range))
