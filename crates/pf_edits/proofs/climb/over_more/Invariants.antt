use Rattle.std.proofs.Common.{◌≡◌, take}
use Rattle.std.specs.List.{fold}
use Rattle.pf_edits.specs.Extents.{extent_at, joined}
use Rattle.pf_edits.proofs.climb.over_more.Given as goal

abbrev pub invariant-loop-child : goal.invariant-loop-child
invariant-loop-child l = l.extent ≡ fold (λ e c. joined e (extent_at l.records.slots c)) l.fn.start (take l.child-index l.children)
