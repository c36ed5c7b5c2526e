-- Faces whose edge values are small enough for 64 bits.
use Rattle.tri_cover.specs.declared.face.Face.{Face}
use Rattle.tri_cover.specs.declared.linear.Linear.{Linear}
use Rattle.edge_values.specs.Small.{AreSmallCoefficients}

-- the coefficients of the function are so small that its values at the pixels of a picture have a magnitude of at most 2^52
abbrev pub IsSmallLinear : Linear → Type 0
IsSmallLinear g = AreSmallCoefficients g.a g.b g.c

-- so have the three edge values of the face
pub record IsSmallFace (f : Face) : Type 0 where
  pub first : IsSmallLinear f.edges.e0
  pub second : IsSmallLinear f.edges.e1
  pub third : IsSmallLinear f.edges.e2
