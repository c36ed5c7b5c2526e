use Rattle.std.proofs.Common.{◌≡◌, length, drop}
use Rattle.pf_scene.proofs.Bringing.{nodes_in, IsBringingNodes}
use Rattle.pf_scene.proofs.stock.take_list_home.Given as goal

abbrev pub invariant-loop-i : goal.invariant-loop-i
invariant-loop-i l = record {
  bringing : IsBringingNodes l.initial.cycles l.cycles l.initial.updates (drop l.i (nodes_in l.updates));
  long : length l.updates ≡ length l.initial.updates;
}
