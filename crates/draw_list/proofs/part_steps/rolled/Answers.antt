use Rattle.std.proofs.Common.{◌≡◌, Option, sym, subst}
use Rattle.fx_math.specs.Views.{point_of}
use Rattle.fx_math.specs.Fixed.{apply}
use Rattle.fx_math.proofs.Still.{apply-identity}
use Rattle.draw_list.specs.Steps.{roll_matrix}
use Rattle.draw_list.specs.declared.turns.Turn.{Turn}
use Rattle.draw_list.proofs.part_steps.rolled.Goals as goal

pub returns-in-None : goal.returns-in-None
returns-in-None c =
    subst (λ (a : Option Turn). point_of c.args.v ≡ apply (roll_matrix a) (point_of c.args.v)) (sym c.in-None.is)
    (sym (apply-identity (point_of c.args.v) c.args.v.in_range))
