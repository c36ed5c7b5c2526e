use Rattle.std.proofs.Common.{◌≡◌, take, length, vec_len}
use Rattle.std.specs.Vec.{vec_capacity}
use Rattle.update_lists.proofs.updates.copied_entries.Given as goal

abbrev pub invariant-loop-entry : goal.invariant-loop-entry
invariant-loop-entry l = record {
  entries : l.copied.items ≡ take l.entry-index l.entries;
  len : vec_len l.copied ≡ l.entry-index;
  room : vec_capacity l.copied ≡ length l.entries;
}
