use Rattle.std.proofs.Common.{refl}
use Rattle.fx_math.specs.Views.{point_of}
use Rattle.draw_list.proofs.StepLaws.{unit_shifts}
use Rattle.draw_list.proofs.steps.Step.of.Goals as goal

pub returns-else-eq : goal.returns-else-eq
returns-else-eq c = unit_shifts c.args.m.now.a (point_of c.args.m.now.t) (c.if-not-is_unit.ensures refl)
