use Rattle.std.proofs.Common.{arith}
use Rattle.std.proofs.lemmas.Grind.{common_steps}
use Rattle.pf_picture.specs.Drawings.{colour_of}
use Rattle.pf_picture.proofs.drawings.Drawing.colour.Goals as goal

pub returns : goal.returns
unfolding colour_of
returns c = grind (arith, common_steps)
