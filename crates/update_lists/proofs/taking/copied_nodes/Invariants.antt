use Rattle.std.proofs.Common.{◌≡◌, take, length, vec_len}
use Rattle.std.specs.Vec.{vec_capacity}
use Rattle.update_lists.specs.Taking.{bare_updates}
use Rattle.update_lists.proofs.taking.copied_nodes.Given as goal

abbrev pub invariant-loop-id : goal.invariant-loop-id
invariant-loop-id g l = record {
  updates : l.entries.items ≡ bare_updates (g.V.NodeView.look l.scene) (take l.id-index l.ids);
  len : vec_len l.entries ≡ l.id-index;
  room : vec_capacity l.entries ≡ length l.ids;
}
