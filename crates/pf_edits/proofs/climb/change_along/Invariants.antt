use Rattle.std.proofs.Common.{◌≡◌, ◌≤◌, ◌*◌, ℕ, true, cond, take}
use Rattle.std.specs.List.{sum_by}
use Rattle.pf_edits.specs.Ways.{is_in}
use Rattle.pf_edits.specs.Extents.{extent_at, before_at, counted_at}
use Rattle.pf_edits.proofs.climb.change_along.Given as goal

abbrev pub invariant-loop-child : goal.invariant-loop-child
invariant-loop-child l = record {
  gain : l.change.gain ≡ sum_by (λ c. cond (is_in c l.way) (extent_at l.records.slots c).size 0) (take l.child-index l.children);
  loss : l.change.loss ≡ sum_by (λ c. cond (is_in c l.way) (before_at l.records.slots c).size 0) (take l.child-index l.children);
  level : l.change.level ≡ true → (c : ℕ) → is_in c (take l.child-index l.children) ≡ true → (counted_at l.records.slots l.way c).height ≡ (extent_at l.records.slots c).height;
  gain_bound : l.change.gain ≤ l.child-index * 4294967296;
  loss_bound : l.change.loss ≤ l.child-index * 4294967296;
}
