-- The hull of points, as a fold over boxes of which each may be none.
use Rattle.std.proofs.Common.{◌≡◌, List, [], ◌∷◌, map, Some, None, refl}
use Rattle.std.specs.List.{fold}
use Rattle.fx_math.specs.Plain.{Point, Bounds}
use Rattle.fx_math.specs.Fixed.{hull, hull_of, box_at}
use Rattle.pf_model.specs.Boxes.{joined, hull_of_all}

pub joined_points : (b : Bounds) (ps : List Point) → fold joined (Some b) (map (λ p. Some (box_at p)) ps) ≡ Some (fold hull b (map box_at ps))
joined_points b [] = refl
joined_points b (p ∷ ps) = joined_points (hull b (box_at p)) ps

pub hull_of_points : (ps : List Point) → hull_of_all (map (λ p. Some (box_at p)) ps) ≡ hull_of ps
hull_of_points [] = refl
hull_of_points (p ∷ ps) = joined_points (box_at p) ps
