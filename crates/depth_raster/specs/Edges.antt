-- The edge values of a face along a row of pixels.
use Rattle.std.specs.Prelude.{◌≡◌, ℕ}
use Rattle.tri_cover.specs.Linears.{value_at, step_of}
use Rattle.tri_cover.specs.declared.face.Face.{Face}
use Rattle.edge_values.specs.declared.values.EdgeValues.{EdgeValues}

-- the values are those of the face at the pixel
pub record AreValuesAt (f : Face) (px py : ℕ) (e : EdgeValues) : Type 0 where
  pub first_is : e.first ≡ value_at f.edges.e0 px py
  pub second_is : e.second ≡ value_at f.edges.e1 px py
  pub third_is : e.third ≡ value_at f.edges.e2 px py

-- by how much those of the face change from a pixel to the next one of its row
pub record AreSlopesOf (f : Face) (e : EdgeValues) : Type 0 where
  pub first_is : e.first ≡ step_of f.edges.e0
  pub second_is : e.second ≡ step_of f.edges.e1
  pub third_is : e.third ≡ step_of f.edges.e2
