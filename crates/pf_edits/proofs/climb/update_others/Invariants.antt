use Rattle.std.proofs.Common.{◌≡◌, ◌≤◌, ℕ, length}
use Rattle.pf_edits.specs.Extents.{look_of, parents_of}
use Rattle.pf_edits.proofs.Growths.{IsAlong}
use Rattle.pf_edits.proofs.climb.update_others.Given as goal

abbrev pub invariant-loop-left : goal.invariant-loop-left
invariant-loop-left l = record {
  within : l.left ≤ length l.ids;
  along : IsAlong l.initial.records.slots l.records.slots l.ids l.id l.left;
  nodes : (b : ℕ) → look_of l.records.slots b ≡ look_of l.initial.records.slots b;
  parents : (b : ℕ) → parents_of l.records.slots b ≡ parents_of l.initial.records.slots b;
}

abbrev pub decreases-loop-left : goal.decreases-loop-left
decreases-loop-left l = l.left
