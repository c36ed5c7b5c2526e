use Rattle.std.proofs.Common.{◌≡◌, take, map}
use Rattle.pf_model.specs.Graphs.{greatest}
use Rattle.pf_edits.specs.Extents.{extent_at}
use Rattle.pf_edits.proofs.climb.greatest_along.Given as goal

abbrev pub invariant-loop-id : goal.invariant-loop-id
invariant-loop-id l =
    (l.extent.height ≡ greatest (map (λ b. (extent_at l.records.slots b).height) (take l.id-index l.way)))
    × (l.extent.size ≡ greatest (map (λ b. (extent_at l.records.slots b).size) (take l.id-index l.way)))
