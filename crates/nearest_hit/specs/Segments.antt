-- Segments, and the time at which one crosses a triangle.
use Rattle.std.specs.Prelude.{ℕ, List, map, slice_index_or, Option}
use Rattle.fx_math.specs.Plain.{Point, Bounds}
use Rattle.fx_math.specs.Views.{point_of}
use Rattle.fx_math.specs.Fixed.{hull, box_at}
use Rattle.fx_math.specs.Steps.{origin}
use Rattle.fx_math.specs.declared.vectors.Vec3.{Vec3}
use Rattle.nearest_hit.specs.declared.segment.Segment.{Segment}
use Rattle.nearest_hit.specs.Crossings.{crossing_between}

-- the least box around a segment
abbrev pub box_around : Segment → Bounds
box_around s = hull (box_at (point_of s.from)) (box_at (point_of s.to))

-- the time at which the segment crosses the triangle u v w, in eye coordinates, where it does
abbrev pub crossing_time : Segment → (u v w : Point) → Option ℕ
crossing_time s u v w = crossing_between (point_of s.from) (point_of s.to) u v w

-- the vertex of a number
abbrev pub vertex : List Vec3 → ℕ → Point
vertex vs k = slice_index_or (map point_of vs) k origin
