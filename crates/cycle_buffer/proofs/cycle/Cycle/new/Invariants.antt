use Rattle.std.proofs.Common.{◌≡◌, length, vec_len}
use Rattle.std.specs.List.{All}
use Rattle.std.specs.Vec.{vec_capacity}
use Rattle.cycle_buffer.proofs.cycle.Cycle.new.Given as goal

-- so many copies were made, and there is room for all
abbrev pub invariant-loop-made : goal.invariant-loop-made
invariant-loop-made l = record {
  long : All (λ a. length a ≡ length l.tris) l.free.items;
  made : vec_len l.free ≡ l.made;
  room : vec_capacity l.free ≡ l.copies;
}
