use Rattle.std.proofs.Common.{◌≡◌, ℕ, ◌≤◌, length, take}
use Rattle.std.specs.Vec.{vec_capacity}
use Rattle.depth_raster.proofs.piece_buffer.fill_up.Given as goal

abbrev pub invariant-loop-i : goal.invariant-loop-i
invariant-loop-i l = record {
  count : length l.written.items ≡ l.i;
  few : length l.initial.written.items ≤ length l.written.items;
  room : 16384 ≤ vec_capacity l.written;
  first : (n : ℕ) → n ≤ length l.initial.written.items → take n l.written.items ≡ take n l.initial.written.items;
}
