use Rattle.std.proofs.Common.{◌≡◌, ◌++◌, ◌-◌, ◌*◌, ◌+◌}
use Rattle.std.specs.Prelude.{map}
use Rattle.std.specs.List.{flat_map}
use Rattle.fx_math.specs.Views.{matrix_of}
use Rattle.pf_model.specs.Kinds.{decal}
use Rattle.pf_model.specs.ShownPlaces.{places}
use Rattle.pf_picture.specs.Walking.{instance_of_leaf, drawn_in}
use Rattle.pf_picture.proofs.walk.+walk.Given as goal

abbrev pub decreases-walk : goal.decreases-walk
decreases-walk g l = l.levels

abbrev pub invariant-loop-place : goal.invariant-loop-place
invariant-loop-place g l =
    map instance_of_leaf l.leaves.items ≡ map instance_of_leaf l.initial.leaves.items
    ++ flat_map (λ c. drawn_in (l.levels - 1) (g.V.NodeView.look l.scene) l.time c.1 (map matrix_of l.below.items) (l.shift + decal l.node.kind * c.0)) (places l.children l.from (l.place - l.from))
