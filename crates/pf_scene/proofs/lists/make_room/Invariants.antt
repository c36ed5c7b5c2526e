use Rattle.std.proofs.Common.{◌≡◌, map}
use Rattle.std.specs.List.{AllWithin}
use Rattle.pf_scene.specs.Frames.{HasRoom, drawn}
use Rattle.pf_scene.proofs.lists.make_room.Given as goal

abbrev pub invariant-loop-i : goal.invariant-loop-i
invariant-loop-i l = record {
  room : AllWithin (HasRoom l.n l.t) l.lists 0 l.i;
  same : map drawn l.lists ≡ map drawn l.initial.lists;
}
