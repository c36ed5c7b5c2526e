use Rattle.std.proofs.Common.{arith}
use Rattle.std.proofs.lemmas.Int.{to_z-of_z}
use Rattle.draw_list.proofs.extents.blended_ends.Goals as goal

pub returns-clause-least : goal.returns-clause-least
returns-clause-least c = grind (arith, to_z-of_z)

pub returns-clause-greatest : goal.returns-clause-greatest
returns-clause-greatest c = grind (arith, to_z-of_z)
