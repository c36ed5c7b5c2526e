use Rattle.std.proofs.Common.{◌≡◌, refl, sym, ◌∙◌, to_z, of_z, w32}
use Rattle.std.proofs.lemmas.Int.{to_z-of_z}
use Rattle.draw_list.proofs.StepLaws.{scale_none}
use Rattle.draw_list.proofs.euler_steps.Factor.of.Goals as goal

pub returns-then-is_unit : goal.returns-then-is_unit
returns-then-is_unit c =
    let at : to_z w32 (of_z w32 c.args.size) ≡ c.args.size = to_z-of_z w32 c.args.size c.ranges.size in
    scale_none c.args.size (sym at ∙ c.if-is_unit.ensures refl)
