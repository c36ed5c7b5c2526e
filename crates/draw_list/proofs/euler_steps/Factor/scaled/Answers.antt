use Rattle.std.proofs.Common.{arith}
use Rattle.std.proofs.lemmas.Int.{to_z-of_z}
use Rattle.fx_math.specs.Views.{point_of}
use Rattle.draw_list.proofs.TurnLaws.{scaled_by}
use Rattle.draw_list.proofs.euler_steps.Factor.scaled.Goals as goal

pub returns : goal.returns
returns c =
    scaled_by c.args.self.now.size (point_of c.args.v) _ _ _
    (grind (arith, to_z-of_z)) (grind (arith, to_z-of_z)) (grind (arith, to_z-of_z))
