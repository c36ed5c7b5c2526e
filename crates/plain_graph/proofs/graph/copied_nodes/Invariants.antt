use Rattle.std.proofs.Common.{◌≡◌, take}
use Rattle.plain_graph.proofs.graph.copied_nodes.Given as goal

abbrev pub invariant-loop-entry : goal.invariant-loop-entry
invariant-loop-entry l = l.copied.items ≡ take l.entry-index l.nodes
