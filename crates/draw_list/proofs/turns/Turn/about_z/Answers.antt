use Rattle.std.proofs.Common.{arith}
use Rattle.std.proofs.lemmas.Int.{to_z-of_z}
use Rattle.fx_math.specs.Views.{point_of}
use Rattle.draw_list.proofs.TurnLaws.{turned_by}
use Rattle.draw_list.proofs.turns.Turn.about_z.Goals as goal

pub returns : goal.returns
returns c =
    turned_by c.args.self.now.sine c.args.self.now.cosine (point_of c.args.v) _ _ _ c.args.v.in_range
    (grind (arith, to_z-of_z)) (grind (arith, to_z-of_z)) (grind (arith, to_z-of_z))
