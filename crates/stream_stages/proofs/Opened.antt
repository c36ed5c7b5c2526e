-- The stops of a node, one level opened.
use Rattle.std.proofs.Common.{◌≡◌, ◌∙◌, ℕ, suc, List, [], ◌∷◌, ◌++◌, ap, refl}
use Rattle.std.specs.Prelude.{flat_map}
use Rattle.std.specs.Option.{option_map_or}
use Rattle.cull_walk.specs.Working.{Scene}
use Rattle.stream_stages.specs.Stops.{Stop, box_at, stops_below, stops_in}

pub in_next : (n : ℕ) (s : Scene) (o : Stop) → stops_in (suc n) s o ≡ o ∷ option_map_or (λ _. flat_map (stops_in n s) (stops_below s o)) (box_at s o) []
unfolding stops_in
in_next n s o = refl

pub in_none : (s : Scene) (o : Stop) → stops_in 0 s o ≡ []
unfolding stops_in
in_none s o = refl

pub in_nothing : (s : Scene) (os : List Stop) → flat_map (stops_in 0 s) os ≡ []
in_nothing s [] = refl
in_nothing s (o ∷ os) = ap (λ (ps : List Stop). ps ++ flat_map (stops_in 0 s) os) (in_none s o) ∙ in_nothing s os
