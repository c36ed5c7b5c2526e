use Rattle.std.proofs.Common.{◌≡◌, ◌+◌, ◌≤◌, ◌++◌, map, length}
use Rattle.pf_model.specs.Copies.{grave_of}
use Rattle.pf_scene.proofs.burial.bury.Given as goal

abbrev pub invariant-loop-remains : goal.invariant-loop-remains
invariant-loop-remains l = record {
  graves : l.graves.graves ≡ l.initial.graves.graves ++ map (grave_of l.frames) l.yielded;
  room : length l.fn.gone.items ≤ l.graves.spare + length l.yielded;
}
