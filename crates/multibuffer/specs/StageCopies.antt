-- What clauses see of a stage's copy, and when its boxes are right.
use Rattle.std.specs.Prelude.{◌≡◌, ℕ, Bool, false, ◌==◌, List, slice_index_or, Option, None}
use Rattle.std.specs.List.{list_any}
use Rattle.fx_math.specs.Plain.{Bounds}
use Rattle.pf_model.specs.declared.nodes.Node.{Node}
use Rattle.pf_model.specs.Graphs.{Nodes, node_at}
use Rattle.pf_model.specs.Copies.{UpdateList}
use Rattle.pf_model.specs.Boxes.{box_of}
use Rattle.bound_cache.specs.Caches.{CacheState, touched_at, noted_at, AreNoted}

-- The nodes of the copy and the box that is kept for each id.
pub record CopyState : Type 0 where
  pub nodes : Nodes
  pub boxes : List (Option Bounds)

-- the box that is kept for an id
abbrev pub boxes_of : CopyState → ℕ → Option Bounds
boxes_of c id = slice_index_or c.boxes id None

-- each box is the one from scratch
pub record HasRightBoxes (c : CopyState) : Type 0 where
  pub each : (id : ℕ) → boxes_of c id ≡ box_of (node_at c.nodes) id

-- between two update lists no id is touched, and each node whose box is made of others is noted
pub record IsTended (nodes : Nodes) (cache : CacheState) : Type 0 where
  pub untouched : (id : ℕ) → touched_at cache id ≡ false
  pub noted : AreNoted (node_at nodes) (noted_at cache)

-- an update list names the id
abbrev pub is_named : ℕ → UpdateList → Bool
is_named id us = list_any (λ e. e.0 == id) us

-- the entry at a place of an update list
abbrev pub entry_at : UpdateList → ℕ → ℕ × Option Node
entry_at us i = slice_index_or us i (0, None)
