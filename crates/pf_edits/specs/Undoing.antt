-- What undoes an edit.
use Rattle.std.specs.Prelude.{◌≡◌, ℕ, ◌-◌, ◌==◌, ◌&&◌, ⊤, Bool, true, false, if◌then◌else◌, List, [], ◌∷◌, take, length, None, is_some}
use Rattle.pf_model.specs.Graphs.{SceneGraph, node_at, change, put, without}
use Rattle.pf_model.specs.Limits.{is_there, has_child, IsGraphWithinLimits}
use Rattle.pf_model.specs.NodeEdits.{with_children, with_kind}
use Rattle.pf_model.specs.Edits.{with_nodes}
use Rattle.pf_edits.specs.declared.undo.Older.{Older}
use Rattle.pf_edits.specs.declared.undo.Older.TheVariants as older
use Rattle.pf_edits.specs.declared.undo.Undo.{Undo}
use Rattle.pf_edits.specs.declared.work.Work.{Work}
use Rattle.pf_edits.specs.Ways.{is_in}
use Rattle.pf_edits.specs.Extents.{parents_of}
use Rattle.pf_edits.specs.Working.{told}

-- the graph before an edit of the node of an id
abbrev pub graph_before : ℕ → Older → SceneGraph → SceneGraph
graph_before id older.Made g = record g { nodes = without id g.nodes; next_serial = g.next_serial - 1 }
graph_before id (older.Deleted r) g = record g { nodes = put id r.node g.nodes; gone = take (length g.gone - 1) g.gone }
graph_before id (older.Children cs) g = with_nodes (change id (with_children cs)) g
graph_before id (older.Kind k) g = with_nodes (change id (with_kind k)) g

-- the parents noted before it
abbrev pub parents_before : ℕ → Older → (ℕ → List ℕ) → ℕ → List ℕ
parents_before id older.Made parents b = if b == id then [] else parents b
parents_before id (older.Deleted r) parents b = if b == id then r.parents else parents b
parents_before id (older.Children cs) parents b = parents b
parents_before id (older.Kind k) parents b = parents b

-- these nodes have the id noted as a parent
abbrev pub AllNote : (ℕ → List ℕ) → ℕ → List ℕ → Type 0
AllNote parents id cs = (x : ℕ) → is_in x cs ≡ true → is_in id (parents x) ≡ true

-- the edit can be undone
abbrev pub CanUndo : ℕ → Older → SceneGraph → (ℕ → List ℕ) → Type 0
CanUndo id older.Made g parents = is_some (node_at g.nodes id) ≡ true
CanUndo id (older.Deleted r) g parents = (node_at g.nodes id ≡ None) × AllNote parents id r.node.children
CanUndo id (older.Children cs) g parents = (is_some (node_at g.nodes id) ≡ true) × AllNote parents id cs
CanUndo id (older.Kind k) g parents = is_some (node_at g.nodes id) ≡ true

-- the parents noted of a node that an edit deleted, which undoing it notes again
abbrev pub brings_back : ℕ → Older → ℕ → ℕ → Bool
brings_back id older.Made y x = false
brings_back id (older.Deleted r) y x = id == x && is_in y r.parents
brings_back id (older.Children cs) y x = false
brings_back id (older.Kind k) y x = false

-- the links of a node to its children that went with it when an edit deleted it
abbrev pub frees : ℕ → Older → ℕ → ℕ → Bool
frees id older.Made y x = false
frees id (older.Deleted r) y x = id == y && is_in x r.node.children
frees id (older.Children cs) y x = false
frees id (older.Kind k) y x = false

-- This undoes what was done between the two states.
pub record IsUndo (u : Undo) (old new : Work) : Type 0 where
  pub can : CanUndo u.id u.older (told new) (parents_of new.records.slots)
  pub before : graph_before u.id u.older (told new) ≡ told old
  pub parents : (b p : ℕ) → is_in p (parents_of old.records.slots b) ≡ true
      → is_in p (parents_before u.id u.older (parents_of new.records.slots) b) ≡ true
  -- undoing notes nothing that was not noted before
  pub back : (y x : ℕ) → brings_back u.id u.older y x ≡ true → is_in y (parents_of old.records.slots x) ≡ true
  -- the links of a node that is gone are told
  pub freed : (y x : ℕ) → has_child (node_at (told old).nodes) y x ≡ true → is_there (node_at (told new).nodes) y ≡ false
      → frees u.id u.older y x ≡ true

-- all parents that were noted are noted still
abbrev pub KeepsParents : Work → Work → Type 0
KeepsParents old new = (b p : ℕ) → is_in p (parents_of old.records.slots b) ≡ true → is_in p (parents_of new.records.slots b) ≡ true

-- edits, the last first, can be undone one after the other
abbrev pub AllUndoable : SceneGraph → (ℕ → List ℕ) → List Undo → Type 0
AllUndoable g parents [] = ⊤
AllUndoable g parents (u ∷ us) =
    CanUndo u.id u.older g parents × IsGraphWithinLimits (graph_before u.id u.older g)
    × AllUndoable (graph_before u.id u.older g) (parents_before u.id u.older parents) us

-- the graph before all of them
abbrev pub before_all : SceneGraph → List Undo → SceneGraph
before_all g [] = g
before_all g (u ∷ us) = before_all (graph_before u.id u.older g) us
