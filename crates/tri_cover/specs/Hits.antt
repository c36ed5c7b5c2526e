-- The hit of a triangle at a pixel: its depth and its colour there.
use Rattle.std.specs.Prelude.{◌≡◌, ℕ, List, [], ◌∷◌, if◌then◌else◌, Option, Some, None, ℤ, pos, ◌+ℤ◌, ◌*ℤ◌, ◌&&◌, unsigned_abs, slice_index, slice_index_or}
use Rattle.fx_math.specs.Plain.{Point, Matrix}
use Rattle.fx_math.specs.Fixed.{floor_div, carry}
use Rattle.fx_math.specs.Steps.{origin}
use Rattle.fx_math.specs.Hit.{Edges, edges, sum_of, det3, ray, is_inside, is_in_depth, depth_of}
use Rattle.fx_math.specs.declared.lenses.Lens.{Lens}
use Rattle.pf_model.specs.Boxes.{corners}
use Rattle.pf_model.specs.declared.geometry.Tri.{Tri}
use Rattle.tri_cover.specs.declared.hit.Hit.{Hit}

-- the mean of the vertices' values, each weighed by its edge value, rounded down
unfoldable pub mean : Edges → ℕ → ℕ → ℕ → ℕ
mean e c0 c1 c2 = unsigned_abs (floor_div (pos c0 *ℤ e.e0 +ℤ pos c1 *ℤ e.e1 +ℤ pos c2 *ℤ e.e2) (sum_of e))

-- the channel i of the colour of the vertex k
abbrev pub channel : List (List ℕ) → ℕ → ℕ → ℕ
channel colours k i = slice_index (slice_index_or colours k []) i

-- the colour where the edge values are these: the mean of each channel
abbrev pub mean_colour : Edges → List (List ℕ) → List ℕ
mean_colour e colours = mean_of 0 ∷ mean_of 1 ∷ mean_of 2 ∷ []
  where
    mean_of : ℕ → ℕ
    mean_of i = mean e (channel colours 0 i) (channel colours 1 i) (channel colours 2 i)

-- the hit of a triangle whose vertices have this determinant, and whose edge values at the pixel are these
unfoldable pub judged : Lens → (volume : ℤ) → Edges → List (List ℕ) → Option Hit
judged lens volume e colours =
    if is_inside volume e && is_in_depth lens (depth_of lens volume e)
    then Some (record { depth = unsigned_abs (depth_of lens volume e); colour = mean_colour e colours })
    else None

-- the hit at the pixel (px, py) of the triangle of these vertices, which are in eye coordinates, and of these colours
abbrev pub hit_of : Lens → (px py : ℕ) → Point → Point → Point → List (List ℕ) → Option Hit
hit_of lens px py v0 v1 v2 colours = judged lens (det3 v0 v1 v2) (edges (ray lens px py) v0 v1 v2) colours

-- the vertex k of a triangle
abbrev pub vertex : Tri → ℕ → Point
vertex tri k = slice_index_or (corners tri) k origin

-- the hit at a pixel of a triangle that the steps carry to the eye
abbrev pub hit : Lens → (px py : ℕ) → List Matrix → Tri → Option Hit
hit lens px py steps tri =
    hit_of lens px py (carry steps (vertex tri 0)) (carry steps (vertex tri 1)) (carry steps (vertex tri 2)) tri.c

-- the second triangle is hit as the first is after the steps, through each lens and at each pixel
abbrev pub HitsAs : Tri → List Matrix → Tri → Type 0
HitsAs tri steps carried = (lens : Lens) (px py : ℕ) → hit lens px py [] carried ≡ hit lens px py steps tri
