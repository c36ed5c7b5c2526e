-- What a stepper keeps: the determinant of its triangle's vertices, the edge values at its pixel, and their steps.
use Rattle.std.specs.Prelude.{◌≡◌, ℕ, ◌<◌, ℤ, pos}
use Rattle.fx_math.specs.Plain.{Point, point}
use Rattle.fx_math.specs.Hit.{Edges, edges, det3, ray}
use Rattle.fx_math.specs.declared.lenses.Lens.{Lens}
use Rattle.pf_model.specs.declared.geometry.Tri.{Tri}
use Rattle.tri_cover.specs.declared.edges.EdgeValues.{EdgeValues}
use Rattle.tri_cover.specs.EdgeValues.{IsDeterminant}
use Rattle.tri_cover.specs.Hits.{vertex}
use Rattle.tri_cover.specs.Edges.{edges_of}

-- how the direction of the rays changes from a pixel to the one on its right
abbrev pub to_the_right : Point
to_the_right = point (pos 2) (pos 0) (pos 0)

-- the edge values of a direction in a triangle
abbrev pub edges_in : Tri → Point → Edges
edges_in tri d = edges d (vertex tri 0) (vertex tri 1) (vertex tri 2)

-- the pixel lies in the picture, and the numbers are those of the triangle there
pub record AreAtPixel (lens : Lens) (tri : Tri) (px py : ℕ) (volume : ℤ) (here step : EdgeValues) : Type 0 where
  pub in_row : px < lens.w
  pub in_picture : py < lens.h
  pub volume_is : volume ≡ det3 (vertex tri 0) (vertex tri 1) (vertex tri 2)
  pub volume_small : IsDeterminant volume
  pub here_is : edges_of here ≡ edges_in tri (ray lens px py)
  pub step_is : edges_of step ≡ edges_in tri to_the_right
