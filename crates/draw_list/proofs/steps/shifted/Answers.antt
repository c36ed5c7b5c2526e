use Rattle.std.proofs.Common.{◌∙◌}
use Rattle.fx_math.specs.Views.{point_of}
use Rattle.draw_list.proofs.StepLaws.{apply-shift}
use Rattle.draw_list.proofs.steps.shifted.Goals as goal

pub returns : goal.returns
returns c = c.sums.ensures ∙ apply-shift (point_of c.args.v) (point_of c.args.t)
