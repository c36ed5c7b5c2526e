use Rattle.std.proofs.Common.{◌≡◌, ℕ, false, get_or, drop, length}
use Rattle.std.specs.Vec.{vec_capacity}
use Rattle.update_lists.specs.Marks.{among}
use Rattle.update_lists.proofs.marks.unmark.Given as goal

abbrev pub invariant-loop-id : goal.invariant-loop-id
invariant-loop-id l = record {
  length_is : length l.table.items ≡ length l.initial.table.items;
  capacity_is : vec_capacity l.table ≡ vec_capacity l.initial.table;
  marks : (q : ℕ) → (among q l.ids ≡ false → get_or l.initial.table.items q false ≡ false) → among q (drop l.id-index l.ids) ≡ false → get_or l.table.items q false ≡ false;
}
