use Rattle.std.proofs.Common.{sym, ◌∙◌}
use Rattle.std.specs.Cmp.{signed_Decides}
use Rattle.std.specs.Cmp.Lexicographic.{pointwise_decides}
use Rattle.draw_list.specs.Steps.{unit_rows}
use Rattle.draw_list.proofs.steps.is_unit.Goals as goal

pub returns : goal.returns
returns c = λ h. (pointwise_decides (pointwise_decides signed_Decides) c.args.rows.now unit_rows).0 (sym c.eq.ensures ∙ h)
