-- The nodes of the records as the graph lists them.
use Rattle.std.specs.Prelude.{ℕ, ◌+◌, [], ◌∷◌, Some, None}
use Rattle.pf_model.specs.Graphs.{Nodes}
use Rattle.pf_edits.specs.Tables.{Slots}

-- the nodes of slots that stand for the ids from k on
abbrev pub nodes_from : ℕ → Slots → Nodes
nodes_from k [] = []
nodes_from k (None ∷ rest) = nodes_from (k + 1) rest
nodes_from k (Some r ∷ rest) = (k, r.node) ∷ nodes_from (k + 1) rest

-- the nodes in rising order of their ids
abbrev pub nodes_of : Slots → Nodes
nodes_of slots = nodes_from 0 slots
