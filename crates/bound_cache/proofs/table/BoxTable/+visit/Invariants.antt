use Rattle.std.proofs.Common.{◌-◌}
use Rattle.bound_cache.specs.Views.{table_of}
use Rattle.bound_cache.proofs.Visiting.{VisitedSome}
use Rattle.bound_cache.proofs.table.BoxTable.+visit.Given as goal

abbrev pub decreases-visit : goal.decreases-visit
decreases-visit g l = l.levels

abbrev pub invariant-loop-part : goal.invariant-loop-part
invariant-loop-part g l = VisitedSome (g.V.NodeView.look l.scene) (l.levels - 1) l.parts l.part-index (table_of l.initial.self) (table_of l.self)
