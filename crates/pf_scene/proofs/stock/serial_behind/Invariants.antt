use Rattle.std.proofs.Common.{◌≡◌, ◌+◌, ◌≤◌, drop}
use Rattle.pf_scene.specs.Stock.{serial_behind}
use Rattle.pf_scene.proofs.stock.serial_behind.Given as goal

abbrev pub invariant-loop-e : goal.invariant-loop-e
invariant-loop-e l = record {
  behind : serial_behind l.next (drop l.e-index l.edits) ≡ serial_behind l.serial l.edits;
  bound : l.next ≤ l.serial + l.e-index;
}
