-- The weighed sums from which the colours of a face are reckoned.
use Rattle.std.specs.Prelude.{◌≡◌, ℕ, List, ℤ}
use Rattle.tri_cover.specs.Linears.{value_at, step_of}
use Rattle.tri_cover.specs.declared.face.Face.{Face}
use Rattle.depth_raster.specs.Mixing.{mix_of}
use Rattle.depth_raster.specs.declared.sums.Sums.{Sums}

-- the sums are the channels of the colours, weighed by three numbers
pub record AreMixed (colours : List (List ℕ)) (first second third : ℤ) (s : Sums) : Type 0 where
  pub red_is : s.red ≡ mix_of colours 0 first second third
  pub green_is : s.green ≡ mix_of colours 1 first second third
  pub blue_is : s.blue ≡ mix_of colours 2 first second third

-- the sums are those of the face at the pixel
abbrev pub AreSumsAt : Face → (px py : ℕ) → Sums → Type 0
AreSumsAt f px py s = AreMixed f.colours (value_at f.edges.e0 px py) (value_at f.edges.e1 px py) (value_at f.edges.e2 px py) s

-- by how much those of the face change from a pixel to the next one of its row
abbrev pub AreStepsOf : Face → Sums → Type 0
AreStepsOf f s = AreMixed f.colours (step_of f.edges.e0) (step_of f.edges.e1) (step_of f.edges.e2) s
