-- What is said of a triangle before its pixels are looked at.
use Rattle.std.specs.Prelude.{◌≡◌, ℕ, ◌<◌, List, Option, Some, None}
use Rattle.fx_math.specs.Plain.{Point}
use Rattle.fx_math.specs.declared.lenses.Lens.{Lens}
use Rattle.pf_model.specs.declared.geometry.Tri.{Tri}
use Rattle.tri_cover.specs.declared.face.Face.{Face}
use Rattle.tri_cover.specs.Hits.{vertex, hit_of}
use Rattle.tri_cover.specs.Faces.{HasHitsOf}

-- the triangle of these vertices has no hit at any pixel of the lens
abbrev pub HitsNothing : Lens → (u v w : Point) → (colours : List (List ℕ)) → Type 0
HitsNothing lens u v w colours = (px py : ℕ) → px < lens.w → py < lens.h → hit_of lens px py u v w colours ≡ None

-- the face, where there is one, has the hits of the triangle of these vertices and colours; where there is none, there is no hit
abbrev pub Foretells : Lens → (u v w : Point) → (colours : List (List ℕ)) → Option Face → Type 0
Foretells lens u v w colours None = HitsNothing lens u v w colours
Foretells lens u v w colours (Some f) = HasHitsOf lens u v w colours f

-- the same of a triangle in eye coordinates: at each pixel `hit lens px py [] tri` is None, or `face_hit f px py`
abbrev pub IsReady : Lens → Tri → Option Face → Type 0
IsReady lens tri ready = Foretells lens (vertex tri 0) (vertex tri 1) (vertex tri 2) tri.c ready
