use Rattle.bound_cache.specs.Views.{table_of}
use Rattle.bound_cache.proofs.Visiting.{ReachedBelow}
use Rattle.bound_cache.proofs.table.BoxTable.reach_all.Given as goal

abbrev pub invariant-loop-id : goal.invariant-loop-id
invariant-loop-id g l = ReachedBelow (g.V.NodeView.look l.scene) l.id (table_of l.initial.self) (table_of l.self)
