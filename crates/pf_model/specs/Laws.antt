-- Laws of graphs, walks and boxes.
use Rattle.std.specs.Prelude.{◌≡◌, ℕ, ◌+◌, ◌≤◌, ⊤, true, false, ◌||◌, ◌==◌, map, sum, Option, Some, None}
use Rattle.std.specs.List.{AllByRecursion}
use Rattle.std.specs.Option.{option_map}
use Rattle.fx_math.specs.Plain.{Bounds, IsBox, IsInside}
use Rattle.fx_math.specs.Fixed.{carry_box}
use Rattle.pf_model.specs.declared.nodes.Kind.{Kind}
use Rattle.pf_model.specs.declared.nodes.Node.{Node}
use Rattle.pf_model.specs.declared.edits.Edit.{Edit}
use Rattle.pf_model.specs.declared.edits.Edit.TheVariants as edit
use Rattle.pf_model.specs.Angles.{Viewpoint}
use Rattle.pf_model.specs.Kinds.{geom_of, own_steps}
use Rattle.pf_model.specs.Graphs.{Look, SceneGraph, children_of, greatest, height_in, size_in, below_in, height_of, size_of, is_below, change}
use Rattle.pf_model.specs.Limits.{has_child}
use Rattle.pf_model.specs.NodeEdits.{node_after}
use Rattle.pf_model.specs.Edits.{made, deleted, with_nodes}
use Rattle.pf_model.specs.Copies.{named_by}
use Rattle.pf_model.specs.Walks.{Occurrence, Instance, walk_in, walk, instances, instance_box}
use Rattle.pf_model.specs.Boxes.{box_in, box_of, box_step, eye_box}

-- all heights are within the limit
abbrev pub AreLow : Look → Type 0
AreLow look = (id : ℕ) → height_of look id ≤ 32

-- no node is below itself
abbrev pub IsAcyclic : Look → Type 0
IsAcyclic look = (id : ℕ) → is_below look id id ≡ false

-- more than 32 levels give the same heights, sizes, nodes below, boxes and walks
pub record LevelsSuffice (look : Look) : Type 0 where
  pub heights : (id k : ℕ) → height_in (32 + k) look id ≡ height_of look id
  pub sizes : (id k : ℕ) → size_in (32 + k) look id ≡ size_of look id
  pub below : (a b k : ℕ) → below_in (32 + k) look a b ≡ is_below look a b
  pub boxes : (id k : ℕ) → box_in (32 + k) look id ≡ box_of look id
  pub walks : (time k : ℕ) (o : Occurrence) → walk_in (32 + k) look time o ≡ walk_in 32 look time o

-- a box lies in another; one that is none lies in each
abbrev pub Lies : Option Bounds → Option Bounds → Type 0
Lies None b = ⊤
Lies (Some a) None = ⊥
Lies (Some a) (Some b) = IsInside a b

abbrev pub IsBoxOrNone : Option Bounds → Type 0
IsBoxOrNone None = ⊤
IsBoxOrNone (Some b) = IsBox b

-- the boxes of a node's children, carried through its steps, lie in its own box
abbrev pub ChildrenLie : (ℕ → Option Bounds) → ℕ → Node → Type 0
ChildrenLie boxes id n = AllByRecursion (λ c. Lies (option_map (carry_box (own_steps n.kind)) (boxes c)) (boxes id)) n.children

-- boxes from scratch obey their recursion, are boxes, and contain those of the children
pub record BoxesNest (look : Look) : Type 0 where
  pub step : (id : ℕ) → box_of look id ≡ box_step look (box_of look) id
  pub are_boxes : (id : ℕ) → IsBoxOrNone (box_of look id)
  pub lie : (id : ℕ) (n : Node) → look id ≡ Some n → geom_of n.kind ≡ None → ChildrenLie (box_of look) id n

-- look-ups that find the same give the same heights, sizes, nodes below, boxes, walks and instances
pub record LooksAgree (f g : Look) : Type 0 where
  pub heights : (id : ℕ) → height_of f id ≡ height_of g id
  pub sizes : (id : ℕ) → size_of f id ≡ size_of g id
  pub below : (a b : ℕ) → is_below f a b ≡ is_below g a b
  pub boxes : (id : ℕ) → box_of f id ≡ box_of g id
  pub walks : (time : ℕ) (v : Viewpoint) → walk f time v ≡ walk g time v
  pub instances : (time : ℕ) (v : Viewpoint) → instances f time v ≡ instances g time v

-- heights that meet their recursion
pub record AreHeights (look : Look) (heights : ℕ → ℕ) : Type 0 where
  pub step : (id : ℕ) → heights id ≡ 1 + greatest (map heights (children_of look id))

-- sizes that meet their recursion
pub record AreSizes (look : Look) (sizes : ℕ → ℕ) : Type 0 where
  pub step : (id : ℕ) → sizes id ≡ 1 + sum (map sizes (children_of look id))

-- look-ups that find the same under each id but one
abbrev pub AgreeBut : ℕ → Look → Look → Type 0
AgreeBut b f g = (id : ℕ) → (id == b) ≡ false → f id ≡ g id

-- a node has the same height, size, box and nodes below it in two look-ups
pub record AgreeAt (f g : Look) (id : ℕ) : Type 0 where
  pub height : height_of f id ≡ height_of g id
  pub size : size_of f id ≡ size_of g id
  pub box : box_of f id ≡ box_of g id
  pub below : (b : ℕ) → is_below f id b ≡ is_below g id b

-- a child of a that is b or has b below it
pub record HasChildAbove (look : Look) (a b : ℕ) : Type 0 where
  pub child : ℕ
  pub is_child : has_child look a child ≡ true
  pub above : (child == b || is_below look child b) ≡ true

-- a parent of b that is a or below a
pub record HasParentBelow (look : Look) (a b : ℕ) : Type 0 where
  pub parent : ℕ
  pub is_parent : has_child look parent b ≡ true
  pub below : (parent == a || is_below look a parent) ≡ true

-- a change of a node that keeps its serial and its birth
abbrev pub KeepsBirth : (Node → Node) → Type 0
KeepsBirth f = (n : Node) → ((f n).serial ≡ n.serial) × ((f n).born ≡ n.born)

-- what an edit can make of a graph: its node made, deleted, or changed with its serial and its birth kept
pub data IsEdited (g : SceneGraph) (e : Edit) : SceneGraph → Type 0 where
  Makes : (kind : Kind) → e ≡ edit.Make (named_by e) kind → IsEdited g e (made (named_by e) kind g)
  Deletes : e ≡ edit.Delete (named_by e) → IsEdited g e (deleted (named_by e) g)
  Changes : KeepsBirth (node_after g.time e) → IsEdited g e (with_nodes (change (named_by e) (node_after g.time e)) g)

-- the box of an instance is that of its node, carried to the eye
abbrev pub HasNodeBox : (ℕ → Option Bounds) → Instance → Type 0
HasNodeBox boxes x = instance_box x ≡ eye_box boxes x.id x.steps
