use Rattle.std.proofs.Common.{◌≡◌, take}
use Rattle.std.specs.Prelude.{map, fold, option_map, Some}
use Rattle.fx_math.specs.Views.{bounds_of, point_of}
use Rattle.fx_math.specs.Fixed.{box_at}
use Rattle.pf_model.specs.Boxes.{joined}
use Rattle.pf_model.proofs.boxes.with_tri.Given as goal

abbrev pub invariant-loop-v : goal.invariant-loop-v
invariant-loop-v l = option_map bounds_of l.wider ≡ fold joined (option_map bounds_of l.fn.around) (map (λ p. Some (box_at p)) (map point_of (take l.v-index l.v-items)))
