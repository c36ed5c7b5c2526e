-- The scene graph: nodes by their ids, and what goes down from a node.
use Rattle.std.specs.Prelude.{ℕ, zero, suc, ◌+◌, max, Bool, false, ◌||◌, ◌==◌, nat_lt, if◌then◌else◌, List, [], ◌∷◌, map, sum, Option}
use Rattle.std.specs.List.{find, list_any}
use Rattle.std.specs.Option.{option_map, option_map_or}
use Rattle.pf_model.specs.declared.nodes.Kind.TheVariants.{Group}
use Rattle.pf_model.specs.declared.nodes.Node.{Node}
use Rattle.pf_model.specs.declared.nodes.Gone.{Gone}

-- The node of an id, where there is one.
abbrev pub Look : Type 0
Look = ℕ → Option Node

-- Ids and their nodes, in rising order of the ids.
abbrev pub Nodes : Type 0
Nodes = List (ℕ × Node)

-- A graph: its nodes, the number of the frame in preparation, the next serial, and the deleted nodes in order. The
-- node of id 0 is the scene.
pub record SceneGraph : Type 0 where
  pub nodes : Nodes
  pub time : ℕ
  pub next_serial : ℕ
  pub gone : List Gone

abbrev pub has_id : ℕ → ℕ × Node → Bool
has_id id e = e.0 == id

abbrev pub node_at : Nodes → Look
node_at nodes id = option_map (λ e. e.1) (find (has_id id) nodes)

-- a group with serial 0 and without children
abbrev pub scene_node : Node
scene_node = record { serial = 0; born = 0; kind = Group; children = [] }

-- the graph of the scene alone
abbrev pub empty_scene : SceneGraph
empty_scene = record { nodes = (0, scene_node) ∷ []; time = 1; next_serial = 1; gone = [] }

abbrev pub children_of : Look → ℕ → List ℕ
children_of look id = option_map_or (λ n. n.children) (look id) []

abbrev pub greatest : List ℕ → ℕ
greatest [] = 0
greatest (n ∷ ns) = max n (greatest ns)

-- Height, size and what is below, each with at most so many levels

unfoldable pub height_in : ℕ → Look → ℕ → ℕ
height_in zero look id = 0
height_in (suc n) look id = 1 + greatest (map (height_in n look) (children_of look id))

unfoldable pub size_in : ℕ → Look → ℕ → ℕ
size_in zero look id = 0
size_in (suc n) look id = 1 + sum (map (size_in n look) (children_of look id))

-- the second node is below the first
unfoldable pub below_in : ℕ → Look → ℕ → ℕ → Bool
below_in zero look a b = false
below_in (suc n) look a b = list_any (λ c. c == b || below_in n look c b) (children_of look a)

-- no chain without a repeat has more nodes than this, where there are at most 4,096 besides the scene
unfoldable pub levels : ℕ
levels = 4097

-- 1 plus the greatest height of the children
abbrev pub height_of : Look → ℕ → ℕ
height_of look id = height_in levels look id

-- 1 plus the sizes of the children, counted with repeats
abbrev pub size_of : Look → ℕ → ℕ
size_of look id = size_in levels look id

abbrev pub is_below : Look → ℕ → ℕ → Bool
is_below look a b = below_in levels look a b

-- Changes of the nodes

-- the node of an id changed
abbrev pub change : ℕ → (Node → Node) → Nodes → Nodes
change id f [] = []
change id f (e ∷ es) = if e.0 == id then (e.0, f e.1) ∷ es else e ∷ change id f es

-- a node put under an id, at its place in the order of the ids
abbrev pub put : ℕ → Node → Nodes → Nodes
put id n [] = (id, n) ∷ []
put id n (e ∷ es) = if nat_lt id e.0 then (id, n) ∷ e ∷ es else (if e.0 == id then (id, n) ∷ es else e ∷ put id n es)

-- the node of an id taken out
abbrev pub without : ℕ → Nodes → Nodes
without id [] = []
without id (e ∷ es) = if e.0 == id then es else e ∷ without id es
