-- The hits of a face: of a triangle of which all is reckoned that no pixel changes.
use Rattle.std.specs.Prelude.{◌≡◌, ℕ, ◌+◌, ◌*◌, ◌/◌, ◌<◌, List, [], ◌∷◌, if◌then◌else◌, Option, Some, None, Bool, ◌&&◌, nat_le, pos, int_le, int_lt}
use Rattle.fx_math.specs.Plain.{Point}
use Rattle.fx_math.specs.declared.lenses.Lens.{Lens}
use Rattle.pf_model.specs.declared.geometry.Tri.{Tri}
use Rattle.tri_cover.specs.declared.extent.Extent.{Extent}
use Rattle.tri_cover.specs.declared.extent.Span.{Span}
use Rattle.tri_cover.specs.declared.face.Face.{Face}
use Rattle.tri_cover.specs.declared.hit.Hit.{Hit}
use Rattle.tri_cover.specs.Hits.{channel, vertex, hit_of}
use Rattle.tri_cover.specs.Linears.{value_at, weight_at}

-- the place is one of the span
abbrev pub is_in_span : Span → ℕ → Bool
is_in_span s place = nat_le s.first place && nat_le place s.last

-- the pixel lies in the box
abbrev pub is_in_box : Extent → (px py : ℕ) → Bool
is_in_box x px py = is_in_span x.columns px && is_in_span x.rows py

-- the depth is one at which anything is seen
abbrev pub is_seen_at : Extent → ℕ → Bool
is_seen_at x depth = nat_le x.near depth && nat_le depth x.far

-- no edge value is below 0 at the pixel, and their sum is above 0
abbrev pub is_covered : Face → (px py : ℕ) → Bool
is_covered f px py =
    int_le (pos 0) (value_at f.edges.e0 px py) && int_le (pos 0) (value_at f.edges.e1 px py)
    && int_le (pos 0) (value_at f.edges.e2 px py) && int_lt (pos 0) (value_at f.edges.sum px py)

-- the depth of the face's plane at the pixel, rounded down
abbrev pub depth_at : Face → (px py : ℕ) → ℕ
depth_at f px py = f.dividend / weight_at f.edges.sum px py

-- the channel i of the colour at the pixel: the mean of the vertices', each weighed by its edge value, rounded down
abbrev pub channel_at : Face → (px py i : ℕ) → ℕ
channel_at f px py i =
    (channel f.colours 0 i * weight_at f.edges.e0 px py + channel f.colours 1 i * weight_at f.edges.e1 px py
    + channel f.colours 2 i * weight_at f.edges.e2 px py)
    / weight_at f.edges.sum px py

abbrev pub colour_at : Face → (px py : ℕ) → List ℕ
colour_at f px py = channel_at f px py 0 ∷ channel_at f px py 1 ∷ channel_at f px py 2 ∷ []

-- the hit of the face at the pixel
unfoldable pub face_hit : Face → (px py : ℕ) → Option Hit
face_hit f px py =
    if is_in_box f.extent px py && is_covered f px py && is_seen_at f.extent (depth_at f px py)
    then Some (record { depth = depth_at f px py; colour = colour_at f px py })
    else None

-- at the pixels of the lens the face has the hits of the triangle of these vertices and colours
pub record HasHitsOf (lens : Lens) (u v w : Point) (colours : List (List ℕ)) (f : Face) : Type 0 where
  pub hits : (px py : ℕ) → px < lens.w → py < lens.h → hit_of lens px py u v w colours ≡ face_hit f px py
  pub in_row : f.extent.columns.last < lens.w
  pub in_picture : f.extent.rows.last < lens.h

-- at the pixels of the lens the face has the hits of the triangle in eye coordinates: `hit lens px py [] tri`
abbrev pub IsFaceOf : Lens → Tri → Face → Type 0
IsFaceOf lens tri f = HasHitsOf lens (vertex tri 0) (vertex tri 1) (vertex tri 2) tri.c f
