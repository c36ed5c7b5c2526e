-- Weighed sums of channels.
use Rattle.std.specs.Prelude.{◌≡◌, ℕ, List, [], ◌∷◌, ℤ}
use Rattle.tri_cover.specs.Hits.{channel}
use Rattle.tri_cover.specs.Linears.{value_at, step_of}
use Rattle.tri_cover.specs.declared.face.Face.{Face}
use Rattle.span_shading.specs.Mixing.{mix, AreBytes}

-- the channel i of the colours of three vertices, weighed by three numbers
abbrev pub mix_of : List (List ℕ) → (i : ℕ) → (first second third : ℤ) → ℤ
mix_of colours i first second third = mix (channel colours 0 i) (channel colours 1 i) (channel colours 2 i) first second third

-- the channel i of a face's vertices, weighed by the edge values at the pixel
abbrev pub number_at : Face → (px py i : ℕ) → ℤ
number_at f px py i = mix_of f.colours i (value_at f.edges.e0 px py) (value_at f.edges.e1 px py) (value_at f.edges.e2 px py)

-- by how much that changes from a pixel to the next one of its row
abbrev pub change_of : Face → (i : ℕ) → ℤ
change_of f i = mix_of f.colours i (step_of f.edges.e0) (step_of f.edges.e1) (step_of f.edges.e2)

-- the channels of the colours of three vertices are numbers of 8 bits
pub record AreColours (colours : List (List ℕ)) : Type 0 where
  pub red : AreBytes (channel colours 0 0) (channel colours 1 0) (channel colours 2 0)
  pub green : AreBytes (channel colours 0 1) (channel colours 1 1) (channel colours 2 1)
  pub blue : AreBytes (channel colours 0 2) (channel colours 1 2) (channel colours 2 2)

-- the three colours have one and the same channel i
pub record IsOneChannel (colours : List (List ℕ)) (i : ℕ) : Type 0 where
  pub second : channel colours 1 i ≡ channel colours 0 i
  pub third : channel colours 2 i ≡ channel colours 0 i

-- the three colours are this one
pub record IsFlat (colours : List (List ℕ)) (colour : List ℕ) : Type 0 where
  pub red : IsOneChannel colours 0
  pub green : IsOneChannel colours 1
  pub blue : IsOneChannel colours 2
  pub colour_is : colour ≡ channel colours 0 0 ∷ channel colours 0 1 ∷ channel colours 0 2 ∷ []
