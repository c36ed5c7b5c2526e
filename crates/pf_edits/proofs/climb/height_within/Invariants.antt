use Rattle.std.proofs.Common.{◌≡◌, take}
use Rattle.pf_edits.specs.Extents.{extent_at, reckoned}
use Rattle.pf_edits.proofs.climb.height_within.Given as goal

abbrev pub invariant-loop-child : goal.invariant-loop-child
invariant-loop-child l = l.extent ≡ reckoned (extent_at l.records.slots) (take l.child-index l.children)
