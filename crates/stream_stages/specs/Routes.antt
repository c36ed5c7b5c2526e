-- The walk under way: what it has found, and what is still to come.
use Rattle.std.specs.Prelude.{◌≡◌, ℕ, ◌+◌, ◌-◌, Bool, true, not, replicate, is_some, List, [], ◌∷◌, ◌++◌, map, filter, flat_map, fold, take, drop, length, slice_get, nat_lt, if◌then◌else◌, Option, None}
use Rattle.std.specs.List.{AllByRecursion, enumerate_from}
use Rattle.std.specs.Option.{option_map, option_map_or, option_and_then, option_to_list}
use Rattle.std.specs.declared.cmp.Reverse.{Reverse}
use Rattle.fx_math.specs.Plain.{Matrix, Bounds}
use Rattle.fx_math.specs.declared.lenses.Lens.{Lens}
use Rattle.pf_model.specs.declared.nodes.Chosen.{Chosen}
use Rattle.pf_model.specs.declared.nodes.Chosen.TheVariants.{All, Nothing, One}
use Rattle.pf_model.specs.declared.nodes.Node.{Node}
use Rattle.pf_model.specs.Angles.{Viewpoint}
use Rattle.pf_model.specs.Graphs.{Look}
use Rattle.pf_model.specs.Kinds.{own_steps, geom_of}
use Rattle.pf_model.specs.Walks.{Instance, steps_of_view}
use Rattle.draw_list.specs.Joints.{steps_at}
use Rattle.draw_list.specs.Lists.{Drawables}
use Rattle.draw_list.specs.Order.{is_opaque, is_earlier, in_draw_order}
use Rattle.cull_walk.specs.Working.{Scene}
use Rattle.stream_stages.specs.declared.levels.Level.{Level}
use Rattle.stream_stages.specs.declared.sightings.Sighting.{Sighting}
use Rattle.stream_stages.specs.Stops.{Stop, nearer, stops_in, scene_stop, found_from}

-- ---- levels
-- the children of a level that are still to be visited, each with its place
abbrev pub children_left : Node → Level → List (ℕ × ℕ)
children_left n l = enumerate_from l.from (take (l.to - l.from) (drop l.from n.children))

abbrev pub stop_at : List Matrix → Level → Node → ℕ × ℕ → Stop
stop_at steps l n c = record { id = c.1; steps = steps; shift = nearer l.shift n.kind c.0 }

-- the stops of the children of a level that are still to be visited, under these steps
abbrev pub stops_left : Scene → List (List Matrix) → Level → List Stop
stops_left s lists l = option_map_or (λ n. map (stop_at (steps_at lists l.joint) l n) (children_left n l)) (s.look l.id) []

-- the next child of a level, and how much nearer it is drawn; none where the level is done
abbrev pub next_child : Look → Level → Option (ℕ × ℕ)
next_child look l =
    option_and_then (λ n.
    if nat_lt l.from l.to then option_map (λ c. (c, nearer l.shift n.kind l.from)) (slice_get n.children l.from) else None) (look l.id)

-- the first place of the chosen children, and the one after the last
abbrev pub first_place : Chosen → ℕ
first_place (One i) = i
first_place _ = 0

abbrev pub last_place : Chosen → ℕ → ℕ
last_place All n = n
last_place Nothing n = 0
last_place (One i) n = i + 1

-- the stops that are still to come of the levels on the way, the outermost first, whose children have so many levels
abbrev pub stops_of : ℕ → Scene → List (List Matrix) → List Level → List Stop
stops_of n s lists [] = []
stops_of n s lists (l ∷ ls) = stops_of (n - 1) s lists ls ++ flat_map (stops_in n s) (stops_left s lists l)

-- ---- instances that wait to be sent
-- the steps to the eye of what is below these nodes, the outermost first
abbrev pub steps_along : Look → List Matrix → List ℕ → List Matrix
steps_along look view ids = fold (λ above id. option_map_or (λ n. own_steps n.kind) (look id) [] ++ above) view ids

-- the ids of the nodes above an instance that waits
abbrev pub nodes_above : Sighting → List ℕ
nodes_above x = take x.depth x.above

-- ids in an array of 32
abbrev pub padded : List ℕ → List ℕ
padded ids = ids ++ replicate (32 - length ids) 0

-- there are nodes of these ids
abbrev pub AreNodes : Look → List ℕ → Type 0
AreNodes look ids = AllByRecursion (λ id. is_some (look id) ≡ true) ids

-- what orders the glass that waits: from far to near, and at one distance by rising place
abbrev pub far_of : Sighting → ℕ
far_of x = option_map_or (λ t. t.far) x.tint 0

abbrev pub glass_key : Sighting → Reverse ℕ × ℕ
glass_key x = (record { 0 = far_of x }, x.place)

abbrev pub glass_order : Sighting → Sighting → Bool
glass_order x y = is_earlier (far_of y) x.place (far_of x) y.place

-- an instance that waits, with the triangles of its geode
abbrev pub sighted : Look → List Matrix → Sighting → Instance
sighted look view x =
    record {
      place = x.place;
      id = 0;
      state = x.state;
      tint = option_map (λ t. t.alpha) x.tint;
      shift = x.shift;
      steps = steps_along look view (nodes_above x);
      tris = option_map_or (λ n. option_map_or (λ ts. ts) (geom_of n.kind) []) (look x.id) [];
      far = option_map_or (λ t. t.far) x.tint 0;
    }

-- ---- the walk under way
-- What a walk was started with, and how far it is: whether the scene itself is still to be visited, the levels on the way,
-- the list of what was seen (joints, and items without triangles), how many nodes were visited, the opaque instance that
-- waits for room, the glass that waits, and, once it is in the order in which it is drawn, how much of it was sent.
pub record Walking : Type 0 where
  pub time : ℕ
  pub view : Viewpoint
  pub lens : Lens
  pub fresh : Bool
  pub way : List Level
  pub seen : Drawables
  pub visited : ℕ
  pub held : Option Sighting
  pub glass : List Sighting
  pub sent : Option ℕ

-- the stops that are still to come
abbrev pub stops_ahead : Scene → Walking → List Stop
stops_ahead s w =
    (if w.fresh then stops_in 32 s (scene_stop (steps_of_view w.view)) else [])
    ++ stops_of 31 s w.seen.joints.lists w.way

-- what is still to be found
abbrev pub found_ahead : Scene → Walking → List Instance
found_ahead s w = found_from (length w.seen.items.items) s (stops_ahead s w)

-- the scene as a walk sees it
abbrev pub scene_of : Look → (ℕ → Option Bounds) → Walking → Scene
scene_of look boxes w = record { look = look; boxes = boxes; lens = w.lens; time = w.time }

abbrev pub waiting : Look → Walking → List Sighting → List Instance
waiting look w xs = map (sighted look (steps_of_view w.view)) xs

-- What is still to be sent: while the walk is under way the opaque instance that waits, what is still found of opaque ones,
-- and then the glass that was and will be found, in the order in which it is drawn; then the rest of the glass.
abbrev pub to_come : Scene → Walking → List Instance
to_come s w =
    option_map_or (λ k. waiting s.look w (drop k w.glass))
    w.sent
    (waiting s.look w (option_to_list w.held)
    ++ filter is_opaque (found_ahead s w)
    ++ in_draw_order (waiting s.look w w.glass ++ filter (λ x. not (is_opaque x)) (found_ahead s w)))
