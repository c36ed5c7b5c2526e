-- The sum of the edge values of a face at a pixel.
use Rattle.std.specs.Prelude.{ℕ, ◌≤◌}
use Rattle.tri_cover.specs.Linears.{value_at}
use Rattle.tri_cover.specs.declared.face.Face.{Face}
use Rattle.edge_values.specs.Weights.{AreInner, IsInnerSum}

-- none of the edge values of the face at the pixel is below 0
abbrev pub AreInnerAt : Face → (px py : ℕ) → Type 0
AreInnerAt f px py = AreInner (value_at f.edges.e0 px py) (value_at f.edges.e1 px py) (value_at f.edges.e2 px py)

-- none of the edge values of the face at the pixel is below 0, and this is their sum
abbrev pub IsInnerSumAt : Face → (px py : ℕ) → (sum : ℕ) → Type 0
IsInnerSumAt f px py sum = IsInnerSum (value_at f.edges.e0 px py) (value_at f.edges.e1 px py) (value_at f.edges.e2 px py) sum

-- none of them is below 0 from one pixel of a row to another
abbrev pub AreInnerTo : Face → (px end py : ℕ) → Type 0
AreInnerTo f px end py = (x : ℕ) → px ≤ x → x ≤ end → AreInnerAt f x py
