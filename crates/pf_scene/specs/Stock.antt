-- The cycles of a graph's geodes.
use Rattle.std.specs.Prelude.{◌≡◌, ⊤, ℕ, ◌+◌, ◌≤◌, Bool, true, false, if◌then◌else◌, List, [], ◌∷◌, length, map, Option, Some, None}
use Rattle.std.specs.Option.{option_map}
use Rattle.pf_model.specs.declared.geometry.Tri.{Tri}
use Rattle.pf_model.specs.declared.edits.Fault.{Fault}
use Rattle.pf_model.specs.declared.edits.Edit.{Edit}
use Rattle.pf_model.specs.declared.edits.Edit.TheVariants as edit
use Rattle.pf_model.specs.declared.nodes.Node.{Node}
use Rattle.pf_model.specs.Kinds.{geom_of, is_geode}
use Rattle.pf_model.specs.Graphs.{SceneGraph, node_at}
use Rattle.pf_model.specs.Edits.{fault_of}
use Rattle.update_lists.specs.Marks.{among}
use Rattle.update_lists.specs.Taking.{IsWritten}

-- What was last written under each serial, where it has a cycle.
abbrev pub Written : Type 0
Written = ℕ → Option (List Tri)

abbrev pub is_make : Edit → Bool
is_make (edit.Make id kind) = true
is_make _ = false

abbrev pub makes_geode : Edit → Bool
makes_geode (edit.Make id kind) = is_geode kind
makes_geode _ = false

-- whether a geode was made: what is refused makes none
abbrev pub was_made : Bool → Bool → Bool
was_made refused made = if refused then false else made

-- the fault of the first edit of a list, or none
abbrev pub first_fault : SceneGraph → List Edit → Option Fault
first_fault g [] = None
first_fault g (e ∷ es) = fault_of g e

-- the serial that the next node gets after an edit
abbrev pub serial_after : ℕ → Edit → ℕ
serial_after serial (edit.Make id kind) = serial + 1
serial_after serial _ = serial

-- the serial that the next node gets after these edits
abbrev pub serial_behind : ℕ → List Edit → ℕ
serial_behind serial [] = serial
serial_behind serial (e ∷ es) = serial_behind (serial_after serial e) es

-- a geode that the edit makes has a cycle of its triangles under this serial, and a node that is none has none
abbrev pub HasCycle : Written → ℕ → Edit → Type 0
HasCycle written serial (edit.Make id kind) = written serial ≡ geom_of kind
HasCycle written serial _ = ⊤

-- the nodes that these edits make do, from this serial on
abbrev pub HaveCycles : Written → ℕ → List Edit → Type 0
HaveCycles written serial [] = ⊤
HaveCycles written serial (e ∷ es) = HasCycle written serial e × HaveCycles written (serial_after serial e) es

-- a geode has a cycle of as many triangles
abbrev pub IsSized : Written → Option Node → Type 0
IsSized written None = ⊤
IsSized written (Some n) = is_geode n.kind ≡ true → option_map length (written n.serial) ≡ option_map length (geom_of n.kind)

-- a node is no geode of this serial
abbrev pub IsOther : ℕ → Option Node → Type 0
IsOther s None = ⊤
IsOther s (Some n) = is_geode n.kind ≡ true → n.serial ≡ s → ⊥

-- no geode of a graph has this serial
abbrev pub HasNoGeode : ℕ → SceneGraph → Type 0
HasNoGeode s g = (id : ℕ) → IsOther s (node_at g.nodes id)

-- Each geode of a graph has a cycle under its serial, whose written content is its triangles; there is none under a
-- serial that no geode has, nor under one that is still to come.
pub record IsStocked (written : Written) (g : SceneGraph) : Type 0 where
  pub contents : (id : ℕ) → IsWritten written (node_at g.nodes id)
  pub owned : (s : ℕ) → HasNoGeode s g → written s ≡ None
  pub fresh : (s : ℕ) → g.next_serial ≤ s → written s ≡ None

-- A graph after edits that name these ids: each geode has a cycle of its length, and of its triangles where it is not
-- named; there is none under a serial that is still to come, nor under one that neither a geode nor a deleted node has;
-- and no node has the serial of a deleted one.
pub record IsOpen (written : Written) (g : SceneGraph) (named : List ℕ) : Type 0 where
  pub sized : (id : ℕ) → IsSized written (node_at g.nodes id)
  pub others : (id : ℕ) → among id named ≡ false → IsWritten written (node_at g.nodes id)
  pub fresh : (s : ℕ) → g.next_serial ≤ s → written s ≡ None
  pub owned : (s : ℕ) → HasNoGeode s g → among s (map (λ x. x.serial) g.gone) ≡ false → written s ≡ None
  pub apart : (id : ℕ) (n : Node) → node_at g.nodes id ≡ Some n → among n.serial (map (λ x. x.serial) g.gone) ≡ false
