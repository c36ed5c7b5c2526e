-- What the types of the walk keep, and how clauses see them.
use Rattle.std.specs.Prelude.{◌≡◌, ⊤, ℕ, ◌+◌, ◌<◌, ◌≤◌, true, false, List, [], ◌∷◌, ◌++◌, map, length, Option, Some, None, is_some, IfSome, slice_get}
use Rattle.std.specs.List.{AllByRecursion}
use Rattle.std.specs.Option.{option_map_or, option_and_then}
use Rattle.std.specs.Vec.{vec_len, vec_capacity}
use Rattle.fx_math.specs.Plain.{Matrix, Bounds}
use Rattle.pf_model.specs.declared.nodes.Node.{Node}
use Rattle.pf_model.specs.Angles.{Viewpoint}
use Rattle.pf_model.specs.Graphs.{Look}
use Rattle.pf_model.specs.Kinds.{Surface, surface_of, own_steps}
use Rattle.pf_model.specs.Boxes.{box_of}
use Rattle.pf_model.specs.Limits.{IsRising, IsWithinLimits}
use Rattle.pf_model.specs.Walks.{steps_of_view}
use Rattle.draw_list.specs.Joints.{steps_at}
use Rattle.draw_list.specs.Kept.{KeptTris, kept_span}
use Rattle.draw_list.specs.Lists.{instances_in}
use Rattle.draw_list.specs.Order.{state_count}
use Rattle.draw_list.specs.declared.stats.Stats.{Stats}
use Rattle.cull_walk.specs.Working.{Scene}
use Rattle.stream_stages.specs.declared.levels.Level.{Level}
use Rattle.stream_stages.specs.declared.sightings.Sighting.{Sighting}
use Rattle.stream_stages.specs.declared.routes.Route.{Route}
use Rattle.stream_stages.specs.declared.routes.Sight.{Sight}
use Rattle.stream_stages.specs.Routes.{Walking, AreNodes, nodes_above, stops_ahead, found_ahead}

abbrev pub walking_of : Sight → Route → Walking
walking_of a r =
    record {
      time = a.time;
      view = a.view;
      lens = a.lens;
      fresh = r.fresh;
      way = r.way.items;
      seen = r.seen;
      visited = r.visited;
      held = r.held;
      glass = r.glass.items;
      sent = r.sent;
    }

-- a scene as a walk sees it
abbrev pub sight_of : Look → (ℕ → Option Bounds) → Sight → Scene
sight_of look boxes a = record { look = look; boxes = boxes; lens = a.lens; time = a.time }

-- the joint of each level is there
abbrev pub HaveLevels : ℕ → List Level → Type 0
HaveLevels joints ls = AllByRecursion (λ l. l.joint < joints) ls

-- the walk has memory for 31 levels and for 131,072 glass items, and the joints that it needs
pub record IsRoute (r : Route) : Type 0 where
  pub levels : HaveLevels (length r.seen.joints.lists) r.way.items
  pub zero : 0 < length r.seen.joints.lists
  pub deep : vec_len r.way ≤ 31
  pub way : 31 ≤ vec_capacity r.way
  pub items : 131072 ≤ r.seen.items.spare + length r.seen.items.items
  pub joints : 131073 ≤ r.seen.joints.spare + length r.seen.joints.lists
  pub few : vec_len r.glass ≤ 131072
  pub glass : 131072 ≤ vec_capacity r.glass
  pub fresh : r.fresh ≡ true → r.way.items ≡ []
  pub sent : IfSome r.sent (λ k. k ≤ vec_len r.glass)

-- ---- the walk of a scene that is a graph
-- the steps that a node puts below itself
abbrev pub steps_of_node : Look → ℕ → List Matrix
steps_of_node look id = option_map_or (λ n. own_steps n.kind) (look id) []

-- each level has the joint of its coordinates, below the steps of those above it
abbrev pub WayFits : Look → List (List Matrix) → List Matrix → List Level → Type 0
WayFits look lists above [] = ⊤
WayFits look lists above (l ∷ ls) =
    (is_some (look l.id) ≡ true)
    × (steps_at lists l.joint ≡ steps_of_node look l.id ++ above)
    × WayFits look lists (steps_of_node look l.id ++ above) ls

-- a geode that waits, and the nodes above it, are there
pub record IsSighted (look : Look) (x : Sighting) : Type 0 where
  pub drawn : is_some (option_and_then (λ n. surface_of n.kind) (look x.id)) ≡ true
  pub above : AreNodes look (nodes_above x)
  pub deep : length (nodes_above x) ≤ 31

-- glass that waits, found before so many others
pub record IsGlassSighted (look : Look) (before : ℕ) (x : Sighting) : Type 0 where
  pub there : IsSighted look x
  pub glass : is_some x.tint ≡ true
  pub earlier : x.place < before

-- geodes have ids below 65,536, and no more triangles than a piece has room for
pub record IsLight (look : Look) : Type 0 where
  pub narrow : (id : ℕ) → 65536 ≤ id → look id ≡ None
  pub light : (id : ℕ) (n : Node) (surface : Surface) → look id ≡ Some n → surface_of n.kind ≡ Some surface → length surface.tris ≤ 65536

-- A graph within the limits, with the boxes of the definition: its walk is exact.
pub record IsStreamable (look : Look) (boxes : ℕ → Option Bounds) (time : ℕ) : Type 0 where
  pub limits : IsWithinLimits look time
  pub boxes_are : (id : ℕ) → boxes id ≡ box_of look id

-- The walk of a scene goes on from here: what is on the way and what waits is there, and what is to come has room.
pub record IsUnderway (s : Scene) (w : Walking) : Type 0 where
  pub scene : IsLight s.look
  pub time : s.time ≡ w.time
  pub lens : s.lens ≡ w.lens
  pub zero : steps_at w.seen.joints.lists 0 ≡ steps_of_view w.view
  pub way : WayFits s.look w.seen.joints.lists (steps_of_view w.view) w.way
  pub items : length (stops_ahead s w) ≤ w.seen.items.spare
  pub joints : length (stops_ahead s w) ≤ w.seen.joints.spare
  pub room : length (stops_ahead s w) + length w.glass ≤ 131072
  pub held : IfSome w.held (λ x. IsSighted s.look x × (is_some x.tint ≡ false))
  pub glass : AllByRecursion (IsGlassSighted s.look (length w.seen.items.items)) w.glass
  pub rising : w.sent ≡ None → IsRising (map (λ x. x.place) w.glass)
  pub passed : w.visited + length (stops_ahead s w) ≤ 131072
  pub over : is_some w.sent ≡ true → (w.held ≡ None) × (stops_ahead s w ≡ [])

-- ---- numbers
-- The numbers of the whole walk: of what was found and visited, and of what is still to come.
abbrev pub numbers_of : Scene → Walking → Stats
numbers_of s w =
    record {
      shown = length w.seen.items.items + length (found_ahead s w);
      states = state_count (instances_in w.seen ++ found_ahead s w);
      visited = w.visited + length (stops_ahead s w);
    }

-- ---- full pieces
-- the triangles of an instance that waits find no room
abbrev pub FindsNoRoom : Look → Sighting → KeptTris → Type 0
FindsNoRoom look x k =
    (surface : Surface) → option_and_then (λ n. surface_of n.kind) (look x.id) ≡ Some surface → kept_span x.id surface.tris k ≡ None

-- what is sent next: the opaque instance that waits, or the next of the glass that is in order
abbrev pub next_waiting : Walking → Option Sighting
next_waiting w = option_map_or (λ k. slice_get w.glass k) w.sent w.held

-- ---- the start
-- nothing was visited yet, and the scene is visited next, below the view
pub record HasBegun (view : Viewpoint) (r : Route) : Type 0 where
  pub fresh : r.fresh ≡ true
  pub way : r.way.items ≡ []
  pub joints : r.seen.joints.lists ≡ steps_of_view view ∷ []
  pub items : r.seen.items.items ≡ []
  pub visited : r.visited ≡ 0
  pub held : r.held ≡ None
  pub glass : r.glass.items ≡ []
  pub sent : r.sent ≡ None
  pub item_room : 131072 ≤ r.seen.items.spare
  pub joint_room : 131072 ≤ r.seen.joints.spare
