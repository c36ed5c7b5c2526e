use Rattle.std.proofs.Common.{◌≡◌, Option, sym, subst}
use Rattle.fx_math.specs.Views.{bounds_of}
use Rattle.fx_math.specs.Fixed.{apply_box}
use Rattle.draw_list.specs.Steps.{roll_matrix}
use Rattle.draw_list.specs.declared.turns.Turn.{Turn}
use Rattle.draw_list.proofs.BoxSteps.{apply_box-identity}
use Rattle.draw_list.proofs.part_steps.rolled_box.Goals as goal

pub returns-in-None : goal.returns-in-None
returns-in-None c =
    let b = c.args.b.now in
    subst (λ (a : Option Turn). bounds_of b ≡ apply_box (roll_matrix a) (bounds_of b)) (sym c.in-None.is)
    (sym (apply_box-identity (bounds_of b) b.ordered b.lo.in_range b.hi.in_range))
