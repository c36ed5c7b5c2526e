use Rattle.std.proofs.Common.{◌≡◌, ◌+◌, ◌++◌, take}
use Rattle.pf_scene.proofs.replies.tell_again.Given as goal

abbrev pub invariant-loop-serial : goal.invariant-loop-serial
invariant-loop-serial l = record {
  items : l.out.items ≡ l.initial.out.items ++ take l.serial-index l.serials;
  room : l.out.spare + l.serial-index ≡ l.initial.out.spare;
}
