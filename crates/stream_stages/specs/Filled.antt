-- What a list keeps while instances that wait are passed into it.
use Rattle.std.specs.Prelude.{◌≡◌, ℕ, ◌+◌, ◌*◌, ◌<◌, ◌≤◌, true, List, [], ◌++◌, length, Some, None, is_some, IfSome, ◌⊎◌}
use Rattle.std.specs.List.{AllByRecursion}
use Rattle.fx_math.specs.Plain.{Matrix}
use Rattle.pf_model.specs.declared.geometry.Tri.{Tri}
use Rattle.pf_model.specs.declared.nodes.Node.{Node}
use Rattle.pf_model.specs.Graphs.{Look}
use Rattle.pf_model.specs.Kinds.{Surface, surface_of}
use Rattle.pf_model.specs.Walks.{steps_of_view}
use Rattle.draw_list.specs.declared.items.Span.{Span}
use Rattle.draw_list.specs.declared.items.Item.{Item}
use Rattle.draw_list.specs.Joints.{steps_at}
use Rattle.draw_list.specs.Items.{tris_at}
use Rattle.draw_list.specs.Kept.{KeptTris, span_at}
use Rattle.draw_list.specs.Lists.{Drawables, instances_in}
use Rattle.cull_walk.specs.Working.{Scene}
use Rattle.stream_stages.specs.Routes.{Walking, stops_ahead, to_come}
use Rattle.stream_stages.specs.Underway.{IsUnderway, FindsNoRoom, next_waiting, numbers_of}

-- the span is within the triangles, and these stand there
pub record IsSpanOf (tris : List Tri) (span : Span) (ts : List Tri) : Type 0 where
  pub within : span.from + span.len ≤ length tris
  pub are : tris_at tris span ≡ ts

-- the joint and the triangles of an item are there
pub record IsThere (d : Drawables) (i : Item) : Type 0 where
  pub joint : i.joint < length d.joints.lists
  pub geom : i.geom.from + i.geom.len ≤ length d.kept.tris

abbrev pub AreThere : Drawables → List Item → Type 0
AreThere d items = AllByRecursion (IsThere d) items

-- the spans of kept triangles are those of their geodes
abbrev pub KeepsGeodes : Look → KeptTris → Type 0
KeepsGeodes look k =
    (id : ℕ) (n : Node) (s : Surface) (span : Span)
    → look id ≡ Some n → surface_of n.kind ≡ Some s → span_at k id ≡ Some span → IsSpanOf k.tris span s.tris

pub record IsSound (look : Look) (view : List Matrix) (d : Drawables) : Type 0 where
  pub kept : KeepsGeodes look d.kept
  pub items : AreThere d d.items.items
  pub wide : 0 < d.kept.spare → length d.kept.spans ≡ 65536
  pub zero : 0 < length d.joints.lists
  pub eye : steps_at d.joints.lists 0 ≡ view
  pub empty : length d.items.items ≡ 0 → 65536 ≤ d.kept.spare

-- ---- room
-- all room is either free or taken, as it was
pub record HasSameRoom (d e : Drawables) : Type 0 where
  pub items : e.items.spare + length e.items.items ≡ d.items.spare + length d.items.items
  pub joints : e.joints.spare + length e.joints.lists ≡ d.joints.spare + length d.joints.lists
  pub tris : e.kept.spare + length e.kept.tris ≡ d.kept.spare + length d.kept.tris

-- ---- passing
-- The walk goes on, and the list has room for so many items with their joints.
pub record CanPass (s : Scene) (most : ℕ) (w : Walking) (d : Drawables) : Type 0 where
  pub underway : IsUnderway s w
  pub sound : IsSound s.look (steps_of_view w.view) d
  pub items : most ≤ d.items.spare + length d.items.items
  pub joints : 32 * most ≤ d.joints.spare + 32 * length d.items.items

-- From the walk w and the list d on to v and e: what is to be sent is passed into the list, and nothing else changes.
pub record Passes (s : Scene) (most : ℕ) (w v : Walking) (d e : Drawables) (tests after : ℕ) : Type 0 where
  pub sent : instances_in d ++ to_come s w ≡ instances_in e ++ to_come s v
  pub next : CanPass s most v e
  pub numbers : numbers_of s v ≡ numbers_of s w
  pub counted : after + length (stops_ahead s v) ≡ tests + length (stops_ahead s w)

-- each box test was of a node that was counted, while fewer nodes are counted than can be
abbrev pub CountsTests : (w v : Walking) (tests after : ℕ) → Type 0
CountsTests w v tests after =
    v.visited < 4294967295 → (w.visited < 4294967295) × (after + w.visited ≡ tests + v.visited)

-- nothing is left to visit
pub record IsOver (s : Scene) (v : Walking) : Type 0 where
  pub held : v.held ≡ None
  pub ahead : stops_ahead s v ≡ []

-- The list has so many items, or it has items and what is sent next has no room for its triangles.
abbrev pub IsFilled : Look → ℕ → Drawables → Walking → Type 0
IsFilled look most d w =
    (length d.items.items ≡ most)
    ⊎ ((0 < length d.items.items) × IfSome (next_waiting w) (λ x. FindsNoRoom look x d.kept) × (is_some (next_waiting w) ≡ true))

-- the walk with its glass in order and so much of it sent
abbrev pub sent_to_there : Walking → ℕ → Walking
sent_to_there w k = record w { sent = Some k }

-- the two are of one walk
pub record IsOneWalk (w v : Walking) : Type 0 where
  pub time : v.time ≡ w.time
  pub view : v.view ≡ w.view
  pub lens : v.lens ≡ w.lens
