use Rattle.std.proofs.Common.{arith}
use Rattle.std.proofs.lemmas.Int.{to_z-of_z}
use Rattle.fx_math.specs.Hit.{edges}
use Rattle.tri_cover.proofs.edges.EdgeValues.new.Goals as goal

pub returns : goal.returns
unfolding edges
returns c = grind (arith, to_z-of_z)
