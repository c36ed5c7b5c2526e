use Rattle.std.proofs.Common.{◌≡◌, ◌≤◌, length}
use Rattle.std.specs.Vec.{vec_capacity}
use Rattle.depth_raster.specs.Slots.{AreSlotted}
use Rattle.depth_raster.proofs.slots.complete.Given as goal

abbrev pub invariant-loop-index : goal.invariant-loop-index
invariant-loop-index l = record {
  room : 16384 ≤ vec_capacity l.slots;
  count : length l.slots.items ≡ l.index;
  slotted : AreSlotted l.pieces l.slots.items;
}
