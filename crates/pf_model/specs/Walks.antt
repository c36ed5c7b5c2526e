-- The walk of a frame through the chosen children, and the instances that a picture is drawn of.
use Rattle.std.specs.Prelude.{ℕ, zero, suc, ◌+◌, ◌*◌, List, [], ◌∷◌, ◌++◌, map, length, Option, Some, None}
use Rattle.std.specs.List.{flat_map, filter_map, enumerate_from, slice_get}
use Rattle.std.specs.Option.{option_map, option_map_or, option_to_list, option_and_then}
use Rattle.fx_math.specs.Plain.{Matrix, Bounds}
use Rattle.fx_math.specs.Views.{point_of}
use Rattle.fx_math.specs.Fixed.{carry}
use Rattle.fx_math.specs.Steps.{view_steps}
use Rattle.pf_model.specs.Angles.{Viewpoint}
use Rattle.pf_model.specs.declared.geometry.Tri.{Tri}
use Rattle.pf_model.specs.declared.nodes.Node.{Node}
use Rattle.pf_model.specs.declared.nodes.Chosen.{Chosen}
use Rattle.pf_model.specs.declared.nodes.Chosen.TheVariants.{All, Nothing, One}
use Rattle.pf_model.specs.Kinds.{Surface, surface_of, own_steps, decal, centre_of, chosen_of}
use Rattle.pf_model.specs.Graphs.{Look}
use Rattle.pf_model.specs.Boxes.{carried_tris_box, squared_distance}

-- A node in the walk: its id, and the steps from the coordinates above it to the eye, nearest first.
pub record Place : Type 0 where
  pub id : ℕ
  pub steps : List Matrix

-- An occurrence of a node in the walk: its place, how much nearer it is drawn, and the places above it, nearest first.
pub record Occurrence : Type 0 where
  pub id : ℕ
  pub steps : List Matrix
  pub shift : ℕ
  pub above : List Place

-- the children shown, each with its place
abbrev pub shown_children : Chosen → List ℕ → List (ℕ × ℕ)
shown_children All cs = enumerate_from 0 cs
shown_children Nothing cs = []
shown_children (One i) cs = option_to_list (option_map (λ c. (i, c)) (slice_get cs i))

-- which children of an occurrence of a node are shown at a time
abbrev pub chosen_in : ℕ → Node → List Matrix → Chosen
chosen_in time n steps = chosen_of n.kind (carry steps (centre_of n.kind)) time (length n.children)

-- the occurrence of the child at a place
abbrev pub child_of : Node → Occurrence → ℕ × ℕ → Occurrence
child_of n o c =
    record {
      id = c.1;
      steps = own_steps n.kind ++ o.steps;
      shift = o.shift + decal n.kind * c.0;
      above = record { id = o.id; steps = o.steps } ∷ o.above;
    }

-- the occurrences right below that of a node
abbrev pub children_in : ℕ → Occurrence → Node → List Occurrence
children_in time o n = map (child_of n o) (shown_children (chosen_in time n o.steps) n.children)

abbrev pub under : Look → ℕ → Occurrence → List Occurrence
under look time o = option_map_or (children_in time o) (look o.id) []

-- an occurrence and all below it, in order and depth first, with at most so many levels
unfoldable pub walk_in : ℕ → Look → ℕ → Occurrence → List Occurrence
walk_in zero look time o = []
walk_in (suc n) look time o = o ∷ flat_map (walk_in n look time) (under look time o)

-- the scene's occurrence under the steps of a view
abbrev pub scene_at : List Matrix → Occurrence
scene_at view = record { id = 0; steps = view; shift = 0; above = [] }

-- the steps of a view
abbrev pub steps_of_view : Viewpoint → List Matrix
steps_of_view v = view_steps (point_of v.eye) v.h v.p v.r

-- the walk of a frame from the scene, for a view; no chain of a graph within the limits has more than 32 nodes
abbrev pub walk : Look → ℕ → Viewpoint → List Occurrence
walk look time v = walk_in 32 look time (scene_at (steps_of_view v))

-- A geode in the walk: its number among them, its id, its state, its alpha where it is glass, its decal shift, its
-- steps to the eye, its triangles and its squared distance.
pub record Instance : Type 0 where
  pub place : ℕ
  pub id : ℕ
  pub state : ℕ
  pub tint : Option ℕ
  pub shift : ℕ
  pub steps : List Matrix
  pub tris : List Tri
  pub far : ℕ

-- the box of an instance in eye coordinates, none where it has no triangles
abbrev pub instance_box : Instance → Option Bounds
instance_box x = carried_tris_box x.steps x.tris

-- the squared distance of glass with these steps and triangles, 0 where it has no box; 0 for what is opaque
abbrev pub distance_of : Option ℕ → List Matrix → List Tri → ℕ
distance_of None steps ts = 0
distance_of (Some alpha) steps ts = option_map_or squared_distance (carried_tris_box steps ts) 0

-- the instance of an occurrence of a geode
abbrev pub instance_of : Occurrence → Surface → ℕ → Instance
instance_of o s place =
    record {
      place = place;
      id = o.id;
      state = s.state;
      tint = s.tint;
      shift = o.shift;
      steps = o.steps;
      tris = s.tris;
      far = distance_of s.tint o.steps s.tris;
    }

-- what the node of an occurrence draws
abbrev pub surface_in : Look → Occurrence → Option (Occurrence × Surface)
surface_in look o = option_map (λ s. (o, s)) (option_and_then (λ n. surface_of n.kind) (look o.id))

-- the geodes of a list of occurrences, numbered from 0
abbrev pub instances_of : Look → List Occurrence → List Instance
instances_of look os = map (λ e. instance_of e.1.0 e.1.1 e.0) (enumerate_from 0 (filter_map (surface_in look) os))

-- the instances of the whole walk
abbrev pub instances : Look → ℕ → Viewpoint → List Instance
instances look time v = instances_of look (walk look time v)
