use Rattle.std.proofs.Common.{arith}
use Rattle.std.proofs.lemmas.Int.{to_z-of_z}
use Rattle.fx_math.proofs.Floor.{floor_by_shift}
use Rattle.draw_list.proofs.sums.whole.Goals as goal

pub returns : goal.returns
returns c = grind (arith, to_z-of_z, floor_by_shift)
