-- Changes of a node at its place in the list, and nodes as a graph: what the code does where a definition goes by the id.
use Rattle.std.specs.Prelude.{ℕ, zero, suc, [], ◌∷◌}
use Rattle.pf_model.specs.declared.nodes.Node.{Node}
use Rattle.pf_model.specs.Graphs.{Nodes, SceneGraph, empty_scene}

-- the node at a place changed
abbrev pub change_at : ℕ → (Node → Node) → Nodes → Nodes
change_at p f [] = []
change_at zero f (e ∷ es) = (e.0, f e.1) ∷ es
change_at (suc p) f (e ∷ es) = e ∷ change_at p f es

-- nodes as a graph: links look at no time and at no serial
abbrev pub graph_of : Nodes → SceneGraph
graph_of nodes = record empty_scene { nodes = nodes }
