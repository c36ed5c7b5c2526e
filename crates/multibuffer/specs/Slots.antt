-- Nodes in slots, one for each id.
use Rattle.std.specs.Prelude.{ℕ, suc, List, [], ◌∷◌, Option, Some, None}
use Rattle.pf_model.specs.declared.nodes.Node.{Node}
use Rattle.pf_model.specs.Graphs.{Nodes}

-- the nodes of slots for the ids from this one on
abbrev pub nodes_from : ℕ → List (Option Node) → Nodes
nodes_from id [] = []
nodes_from id (None ∷ slots) = nodes_from (suc id) slots
nodes_from id (Some n ∷ slots) = (id, n) ∷ nodes_from (suc id) slots
