use Rattle.fx_math.proofs.Containment.{carry-holds, carry_box-inside}
use Rattle.fx_math.proofs.laws.steps_keep_boxes.Goals as goal

pub returns-clause-points : goal.returns-clause-points
returns-clause-points c = carry-holds

pub returns-clause-parts : goal.returns-clause-parts
returns-clause-parts c = carry_box-inside
