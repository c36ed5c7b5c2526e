use Rattle.std.proofs.Common.{◌≡◌, take, map}
use Rattle.plain_graph.specs.Extents.{above, told}
use Rattle.plain_graph.proofs.survey.next_table.Given as goal

abbrev pub invariant-loop-entry : goal.invariant-loop-entry
invariant-loop-entry l = l.next.items ≡ map (λ e. above l.target (told l.base l.nodes l.table) e.1.children) (take l.entry-index l.nodes)
