use Rattle.std.proofs.Common.{◌≡◌, ℕ, ◌≤◌, length, take}
use Rattle.std.specs.Vec.{vec_capacity}
use Rattle.depth_raster.specs.Slots.{AreNumbered}
use Rattle.depth_raster.proofs.slots.wait.Given as goal

abbrev pub invariant-loop-index : goal.invariant-loop-index
invariant-loop-index l = record {
  room : 16384 ≤ vec_capacity l.slots;
  count : length l.slots.items ≡ l.index;
  few : length l.slots.items ≤ l.count;
  more : length l.initial.slots.items ≤ length l.slots.items;
  numbered : AreNumbered l.slots.items;
  first : (n : ℕ) → n ≤ length l.initial.slots.items → take n l.slots.items ≡ take n l.initial.slots.items;
}
