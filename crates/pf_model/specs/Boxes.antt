-- Bounding boxes of nodes and of occurrences, from scratch.
use Rattle.std.specs.Prelude.{◌≡◌, ℕ, zero, suc, ◌+◌, ◌*◌, ℤ, ◌+ℤ◌, unsigned_abs, List, map, Option, Some, None}
use Rattle.std.specs.List.{fold, flat_map}
use Rattle.std.specs.Option.{option_map, option_map_or}
use Rattle.fx_math.specs.Plain.{Point, Matrix, Bounds}
use Rattle.fx_math.specs.Views.{point_of}
use Rattle.fx_math.specs.Fixed.{carry_box, hull, hull_of}
use Rattle.pf_model.specs.declared.geometry.Tri.{Tri}
use Rattle.pf_model.specs.declared.nodes.Node.{Node}
use Rattle.pf_model.specs.Kinds.{geom_of, own_steps}
use Rattle.pf_model.specs.Graphs.{Look}

-- the hull of two boxes, of which each may be none
abbrev pub joined : Option Bounds → Option Bounds → Option Bounds
joined None b = b
joined (Some a) None = Some a
joined (Some a) (Some b) = Some (hull a b)

abbrev pub hull_of_all : List (Option Bounds) → Option Bounds
hull_of_all boxes = fold joined None boxes

abbrev pub corners : Tri → List Point
corners t = map point_of t.v

-- the box of triangles, none where there are none
abbrev pub box_of_tris : List Tri → Option Bounds
box_of_tris ts = hull_of (flat_map corners ts)

-- the box of triangles, carried through the steps to the eye
abbrev pub carried_tris_box : List Matrix → List Tri → Option Bounds
carried_tris_box steps ts = option_map (carry_box steps) (box_of_tris ts)

abbrev pub square : ℤ → ℕ
square z = unsigned_abs z * unsigned_abs z

-- four times the squared distance of the middle of an eye box from the eye
unfoldable pub squared_distance : Bounds → ℕ
squared_distance b = square (b.lo.x +ℤ b.hi.x) + square (b.lo.y +ℤ b.hi.y) + square (b.lo.z +ℤ b.hi.z)

-- the box of a node from those of its children: the hull of a geode's vertices, or of all children, carried through
-- the node's own steps
abbrev pub box_from : (ℕ → Option Bounds) → Node → Option Bounds
box_from boxes n =
    option_map_or box_of_tris (geom_of n.kind)
    (option_map (carry_box (own_steps n.kind)) (hull_of_all (map boxes n.children)))

abbrev pub box_step : Look → (ℕ → Option Bounds) → ℕ → Option Bounds
box_step look boxes id = option_map_or (box_from boxes) (look id) None

-- the box of a node, with at most so many levels
unfoldable pub box_in : ℕ → Look → ℕ → Option Bounds
box_in zero look id = None
box_in (suc n) look id = box_step look (box_in n look) id

-- the box of a node; no chain of a graph within the limits has more than 32 nodes
abbrev pub box_of : Look → ℕ → Option Bounds
box_of look id = box_in 32 look id

-- boxes that meet the recursion
pub record AreBoxes (look : Look) (boxes : ℕ → Option Bounds) : Type 0 where
  pub step : (id : ℕ) → boxes id ≡ box_step look boxes id

-- the box of an occurrence in eye coordinates: the node's, carried through the steps to the eye
abbrev pub eye_box : (ℕ → Option Bounds) → ℕ → List Matrix → Option Bounds
eye_box boxes id steps = option_map (carry_box steps) (boxes id)
