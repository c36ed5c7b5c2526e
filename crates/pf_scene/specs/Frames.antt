-- What a Frame answers, and the room that it makes.
use Rattle.std.specs.Prelude.{◌≡◌, ℕ, ◌+◌, ◌≤◌, List, Option}
use Rattle.std.specs.List.{All}
use Rattle.pf_model.specs.declared.geometry.Tri.{Tri}
use Rattle.fx_math.specs.Plain.{Matrix}
use Rattle.pf_model.specs.Graphs.{SceneGraph, node_at, size_of}
use Rattle.pf_model.specs.Totals.{triangle_count}
use Rattle.draw_list.specs.declared.items.Item.{Item}
use Rattle.draw_list.specs.declared.items.Span.{Span}
use Rattle.draw_list.specs.Kept.{span_at}
use Rattle.draw_list.specs.Lists.{Drawables}
use Rattle.update_lists.specs.declared.cuts.Cut.{Cut}
use Rattle.pf_history.specs.Cuts.{next_cut}
use Rattle.pf_scene.specs.Scenes.{Shared, state_in}

-- The cut of the next frame: its number, the views, the unfolded size of the scene, the triangles of all geodes, and the
-- ids that changed since the frame before, each with its node or none.
pub record IsCutOf (c : Cut) (s : Shared) : Type 0 where
  pub frame : c.frame ≡ (state_in s).frames + 1
  pub views : c.views ≡ (state_in s).views
  pub size : c.size ≡ size_of (node_at (state_in s).graph.nodes) 0
  pub tris : c.tris ≡ triangle_count (node_at (state_in s).graph.nodes)
  pub updates : c.updates ≡ next_cut s.channels s.log

-- A draw list has room for so many items and joints more, and for so many triangles more.
pub record HasRoom (n t : ℕ) (d : Drawables) : Type 0 where
  pub items : n ≤ d.items.spare
  pub joints : n ≤ d.joints.spare
  pub tris : t ≤ d.kept.spare

-- each draw list has room for the scene's unfolded size and for all triangles
abbrev pub AllHaveRoom : SceneGraph → List Drawables → Type 0
AllHaveRoom g lists = All (HasRoom (size_of (node_at g.nodes) 0) (triangle_count (node_at g.nodes))) lists

-- What a draw list draws, its room aside.
pub record Drawn : Type 0 where
  pub joints : List (List Matrix)
  pub items : List Item
  pub tris : List Tri
  pub spans : ℕ → Option Span

abbrev pub drawn : Drawables → Drawn
drawn d = record { joints = d.joints.lists; items = d.items.items; tris = d.kept.tris; spans = span_at d.kept }
