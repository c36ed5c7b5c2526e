use Rattle.nearest_hit.proofs.CommonPoints.{common_point, common_touch}
use Rattle.nearest_hit.proofs.laws.boxes_that_touch_have_a_common_point.Goals as goal

pub returns : goal.returns
returns c = λ b d f g. (common_point b d f g, common_touch b d)
