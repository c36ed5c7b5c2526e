use Rattle.pf_model.proofs.Solutions.{heights_meet, sizes_meet, boxes_meet, heights_are, sizes_are, boxes_are, heights_bounded}
use Rattle.pf_model.proofs.laws.recursions_have_one_solution.Goals as goal

pub returns-clause-meet : goal.returns-clause-meet
returns-clause-meet c = λ look low. (heights_meet look low, sizes_meet look low, boxes_meet look low)

pub returns-clause-heights : goal.returns-clause-heights
returns-clause-heights c = heights_are

pub returns-clause-sizes : goal.returns-clause-sizes
returns-clause-sizes c = sizes_are

pub returns-clause-boxes : goal.returns-clause-boxes
returns-clause-boxes c = boxes_are

pub returns-clause-bounded : goal.returns-clause-bounded
returns-clause-bounded c = heights_bounded
