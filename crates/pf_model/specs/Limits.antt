-- The limits of a graph.
use Rattle.std.specs.Prelude.{◌≡◌, ℕ, ◌<◌, ◌≤◌, Bool, true, false, ⊤, nat_eq, ◌==◌, List, [], ◌∷◌, map, length, Some, None, is_some}
use Rattle.std.specs.List.{AllByRecursion, IsDistinct, list_any, list_all}
use Rattle.pf_model.specs.declared.geometry.Tri.{Tri}
use Rattle.pf_model.specs.declared.nodes.Kind.{Kind}
use Rattle.pf_model.specs.declared.nodes.Kind.TheVariants.{Seq}
use Rattle.pf_model.specs.declared.nodes.Run.{Run}
use Rattle.pf_model.specs.declared.nodes.Run.TheVariants.{Since, Held}
use Rattle.pf_model.specs.declared.nodes.Node.{Node}
use Rattle.pf_model.specs.Kinds.{geom_of, is_geode}
use Rattle.pf_model.specs.Graphs.{Look, SceneGraph, node_at, children_of, height_of, size_of, is_below}

-- each number is below all after it
abbrev pub IsRising : List ℕ → Type 0
IsRising [] = ⊤
IsRising (x ∷ xs) = AllByRecursion (λ y. x < y) xs × IsRising xs

abbrev pub is_there : Look → ℕ → Bool
is_there look id = is_some (look id)

abbrev pub has_child : Look → ℕ → ℕ → Bool
has_child look parent child = list_any (λ c. c == child) (children_of look parent)

-- The limits of ids and nodes, the starts of the sequences aside.
pub record KeepsLimits (look : Look) : Type 0 where
  -- ids are below 65,536
  pub narrow : (id : ℕ) → 65536 ≤ id → look id ≡ None
  -- at most 4,096 nodes besides the scene: no rising list of ids with nodes is longer
  pub few : (ids : List ℕ) → IsRising ids → list_all (is_there look) ids ≡ true → length ids ≤ 4097
  -- every child has a node
  pub linked : (id child : ℕ) → has_child look id child ≡ true → is_there look child ≡ true
  pub short : (id : ℕ) → length (children_of look id) ≤ 256
  -- no node is below itself
  pub acyclic : (id : ℕ) → is_below look id id ≡ false
  -- the scene is nobody's child
  pub root : (id : ℕ) → has_child look id 0 ≡ false
  -- a geode has no children
  pub leaves : (id : ℕ) (n : Node) → look id ≡ Some n → is_geode n.kind ≡ true → n.children ≡ []
  pub low : (id : ℕ) → height_of look id ≤ 32
  pub small : (id : ℕ) → size_of look id ≤ 131072
  pub light : (id : ℕ) (n : Node) (ts : List Tri) → look id ≡ Some n → geom_of n.kind ≡ Some ts → length ts ≤ 4096

-- a running sequence began at the time or before it
abbrev pub HasBegunRun : ℕ → Run → Type 0
HasBegunRun time (Since s) = s ≤ time
HasBegunRun time (Held i) = ⊤

abbrev pub HasBegun : ℕ → Kind → Type 0
HasBegun time (Seq ts r) = HasBegunRun time r
HasBegun time _ = ⊤

-- Ids and nodes within the limits at a time.
pub record IsWithinLimits (look : Look) (time : ℕ) : Type 0 where
  pub limits : KeepsLimits look
  pub begun : (id : ℕ) (n : Node) → look id ≡ Some n → HasBegun time n.kind

-- A graph within the limits.
pub record IsGraphWithinLimits (g : SceneGraph) : Type 0 where
  pub within : IsWithinLimits (node_at g.nodes) g.time
  pub rising : IsRising (map (λ e. e.0) g.nodes)
  pub scene : is_there (node_at g.nodes) 0 ≡ true
  pub serials_differ : IsDistinct nat_eq (map (λ e. e.1.serial) g.nodes)
  pub serials_given : AllByRecursion (λ e. e.1.serial < g.next_serial) g.nodes
  pub born_before : AllByRecursion (λ e. e.1.born ≤ g.time) g.nodes
