use Rattle.std.proofs.Common.{◌≡◌}
use Rattle.plain_graph.specs.Extents.{table_in}
use Rattle.plain_graph.proofs.survey.extents.Given as goal

abbrev pub invariant-loop-level : goal.invariant-loop-level
invariant-loop-level l = l.table.items ≡ table_in l.target l.level l.nodes
