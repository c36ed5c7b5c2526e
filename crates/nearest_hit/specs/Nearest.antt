-- The nearest hit of a segment in a scene.
use Rattle.std.specs.Prelude.{◌≡◌, ℕ, List, fold, filter, filter_map, flat_map, map, sum, length, if◌then◌else◌, Option, Some, None, Bool, false, nat_lt, ◌==◌, ◌&&◌, ◌||◌}
use Rattle.std.specs.List.{enumerate_from}
use Rattle.std.specs.Option.{option_map, option_map_or}
use Rattle.fx_math.specs.Plain.{Matrix, Bounds}
use Rattle.fx_math.specs.Fixed.{carry}
use Rattle.pf_model.specs.Angles.{Viewpoint}
use Rattle.pf_model.specs.Boxes.{box_of}
use Rattle.pf_model.specs.Graphs.{Look}
use Rattle.pf_model.specs.Limits.{IsWithinLimits}
use Rattle.pf_model.specs.Walks.{Instance, instance_box, instances}
use Rattle.pf_model.specs.declared.geometry.Tri.{Tri}
use Rattle.nearest_hit.specs.declared.found.Near.{Near}
use Rattle.nearest_hit.specs.declared.segment.Segment.{Segment}
use Rattle.nearest_hit.specs.Segments.{box_around, crossing_time, vertex}
use Rattle.nearest_hit.specs.Touch.{touch}

-- Hits

-- the time at which the segment crosses a triangle that the steps carry to the eye
abbrev pub time_in : Segment → List Matrix → Tri → Option ℕ
time_in s steps t =
    crossing_time s (carry steps (vertex t.v 0)) (carry steps (vertex t.v 1)) (carry steps (vertex t.v 2))

-- the hit of the triangle of a number in an instance, at this time
abbrev pub hit_of : Instance → ℕ → ℕ → Near
hit_of x number time = record { t = time; place = x.place; tri = number; id = x.id }

-- the hit of the triangle of a number in an instance, where the segment crosses it
abbrev pub hit_at : Segment → Instance → ℕ × Tri → Option Near
hit_at s x (number, tri) = option_map (hit_of x number) (time_in s x.steps tri)

-- the hits of the triangles of an instance, by rising number
abbrev pub hits_of : Segment → Instance → List Near
hits_of s x = filter_map (hit_at s x) (enumerate_from 0 x.tris)

-- The nearest

-- by time, then by the place of the instance in the walk, then by the number of the triangle in it
abbrev pub is_before : Near → Near → Bool
is_before a b =
    nat_lt a.t b.t
    || (a.t == b.t && (nat_lt a.place b.place || (a.place == b.place && nat_lt a.tri b.tri)))

-- the one that is before the other; the first where neither is
abbrev pub closer : Option Near → Near → Option Near
closer None h = Some h
closer (Some g) h = if is_before h g then Some h else Some g

-- the closest hit of some instances, none where there are no hits
abbrev pub nearest_of : Segment → List Instance → Option Near
nearest_of s xs = fold closer None (flat_map (hits_of s) xs)

-- the nearest hit in the whole walk of a scene at a time, from a view
unfoldable pub nearest : Look → ℕ → Viewpoint → Segment → Option Near
nearest look time v s = nearest_of s (instances look time v)

-- Instances near the segment

-- a box that is there has a point in common with the least box around the segment
abbrev pub is_near : Segment → Option Bounds → Bool
is_near s b = option_map_or (touch (box_around s)) b false

-- the eye box of the instance has one
abbrev pub is_instance_near : Segment → Instance → Bool
is_instance_near s x = is_near s (instance_box x)

-- how many triangles the instances near the segment have
abbrev pub triangles_near : Look → ℕ → Viewpoint → Segment → ℕ
triangles_near look time v s = sum (map (λ x. length x.tris) (filter (is_instance_near s) (instances look time v)))

-- What the probe needs of a scene to be exact: a graph within the limits, with the boxes of the definition.
pub record CanBeProbed (look : Look) (boxes : ℕ → Option Bounds) (time : ℕ) : Type 0 where
  pub limits : IsWithinLimits look time
  pub boxes_are : (id : ℕ) → boxes id ≡ box_of look id
