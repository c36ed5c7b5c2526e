use Rattle.std.proofs.Common.{◌≡◌, take}
use Rattle.std.specs.Prelude.{map, option_map, Some}
use Rattle.std.specs.List.{flat_map}
use Rattle.fx_math.specs.Views.{bounds_of}
use Rattle.pf_model.specs.Boxes.{hull_of_all, corners}
use Rattle.fx_math.specs.Fixed.{box_at}
use Rattle.pf_model.proofs.boxes.widened.Given as goal

abbrev pub invariant-loop-tri : goal.invariant-loop-tri
invariant-loop-tri l = option_map bounds_of l.around ≡ hull_of_all (map (λ p. Some (box_at p)) (flat_map corners (take l.tri-index l.tris)))
