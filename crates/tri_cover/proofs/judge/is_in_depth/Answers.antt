use Rattle.std.proofs.Common.{arith}
use Rattle.std.proofs.lemmas.Int.{to_z-of_z}
use Rattle.fx_math.specs.Hit.{is_in_depth}
use Rattle.tri_cover.proofs.judge.is_in_depth.Goals as goal

pub returns-then-near-depth : goal.returns-then-near-depth
unfolding is_in_depth
returns-then-near-depth c = grind (arith, to_z-of_z)

pub returns-else-near-depth : goal.returns-else-near-depth
unfolding is_in_depth
returns-else-near-depth c = grind (arith, to_z-of_z)
