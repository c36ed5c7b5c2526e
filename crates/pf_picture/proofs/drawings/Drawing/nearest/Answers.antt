use Rattle.std.proofs.Common.{arith}
use Rattle.std.proofs.lemmas.Grind.{common_steps}
use Rattle.pf_picture.specs.Drawings.{nearest_in}
use Rattle.pf_picture.proofs.drawings.Drawing.nearest.Goals as goal

pub returns : goal.returns
unfolding nearest_in
returns c = grind (arith, common_steps)
