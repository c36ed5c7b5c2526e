-- The walk through what is in sight, as lists: the nodes that it comes to, and the instances that it finds.
use Rattle.std.specs.Prelude.{ℕ, zero, suc, ◌+◌, ◌*◌, min, List, [], ◌∷◌, ◌++◌, map, flat_map, filter_map, Option}
use Rattle.std.specs.List.{enumerate_from}
use Rattle.std.specs.Option.{option_map, option_map_or, option_and_then}
use Rattle.fx_math.specs.Plain.{Matrix, Bounds}
use Rattle.pf_model.specs.declared.nodes.Kind.{Kind}
use Rattle.pf_model.specs.declared.nodes.Node.{Node}
use Rattle.pf_model.specs.Kinds.{Surface, surface_of, own_steps, decal}
use Rattle.pf_model.specs.Boxes.{squared_distance, eye_box}
use Rattle.pf_model.specs.Walks.{Instance, shown_children, chosen_in}
use Rattle.tri_cover.specs.Labels.{placed}
use Rattle.cull_walk.specs.Working.{Scene, in_frustum}

-- A node that the walk comes to: its id, the steps from the coordinates above it to the eye, nearest first, and how much
-- nearer it is drawn.
pub record Stop : Type 0 where
  pub id : ℕ
  pub steps : List Matrix
  pub shift : ℕ

-- the scene's stop under the steps of a view
abbrev pub scene_stop : List Matrix → Stop
scene_stop view = record { id = 0; steps = view; shift = 0 }

-- the box of a stop in eye coordinates, where it has one that is not outside
abbrev pub box_at : Scene → Stop → Option Bounds
box_at s o = in_frustum s.lens (eye_box s.boxes o.id o.steps)

-- how much nearer the child at a place is drawn, at most the greatest number
abbrev pub nearer : ℕ → Kind → ℕ → ℕ
nearer shift kind place = min (shift + decal kind * place) 4294967295

-- the stop of the child at a place
abbrev pub stop_below : Node → Stop → ℕ × ℕ → Stop
stop_below n o c = record { id = c.1; steps = own_steps n.kind ++ o.steps; shift = nearer o.shift n.kind c.0 }

-- the stops of the chosen children
abbrev pub stops_below : Scene → Stop → List Stop
stops_below s o =
    option_map_or (λ n. map (stop_below n o) (shown_children (chosen_in s.time n o.steps) n.children)) (s.look o.id) []

-- a stop and all below it, in order and depth first, with at most so many levels; what is outside is left with all below it
unfoldable pub stops_in : ℕ → Scene → Stop → List Stop
stops_in zero s o = []
stops_in (suc n) s o = o ∷ option_map_or (λ _. flat_map (stops_in n s) (stops_below s o)) (box_at s o) []

-- what the node of an id draws
abbrev pub surface_at : Scene → ℕ → Option Surface
surface_at s id = option_and_then (λ n. surface_of n.kind) (s.look id)

-- a geode with this eye box as an instance, without an id and a place
abbrev pub instance_at : Stop → Bounds → Surface → Instance
instance_at o around surface =
    record {
      place = 0;
      id = 0;
      state = surface.state;
      tint = surface.tint;
      shift = o.shift;
      steps = o.steps;
      tris = surface.tris;
      far = option_map_or (λ _. squared_distance around) surface.tint 0;
    }

-- what is found at a stop: the instance of a geode in sight
abbrev pub found_at : Scene → Stop → Option Instance
found_at s o = option_and_then (λ around. option_map (instance_at o around) (surface_at s o.id)) (box_at s o)

-- what is found at stops, numbered from n
abbrev pub found_from : ℕ → Scene → List Stop → List Instance
found_from n s os = map placed (enumerate_from n (filter_map (found_at s) os))

-- all stops of a scene, 32 nodes deep
abbrev pub all_stops : Scene → List Matrix → List Stop
all_stops s view = stops_in 32 s (scene_stop view)
