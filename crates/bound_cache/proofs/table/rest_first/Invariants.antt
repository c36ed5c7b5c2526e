use Rattle.bound_cache.proofs.Fills.{RestedBelow}
use Rattle.bound_cache.proofs.table.rest_first.Given as goal

abbrev pub invariant-loop-place : goal.invariant-loop-place
invariant-loop-place g l = RestedBelow (g.V.NodeView.look l.scene) l.place l.initial.marks.items l.marks.items
