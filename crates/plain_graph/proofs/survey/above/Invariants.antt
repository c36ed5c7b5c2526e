use Rattle.std.proofs.Common.{◌≡◌, take}
use Rattle.plain_graph.specs.Extents.{above, told}
use Rattle.plain_graph.proofs.survey.above.Given as goal

abbrev pub invariant-loop-child : goal.invariant-loop-child
invariant-loop-child l = l.extent ≡ above l.target (told l.base l.nodes l.table) (take l.child-index l.children)
