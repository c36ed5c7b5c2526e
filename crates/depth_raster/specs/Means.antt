-- The means of a face's channels along a row of pixels.
use Rattle.std.specs.Prelude.{◌≡◌, ℕ, ◌+◌, ◌^◌, List, [], ◌∷◌, ◌+ℤ◌}
use Rattle.std.specs.Option.{IfSome}
use Rattle.fx_math.specs.Within.{IsWithin}
use Rattle.tri_cover.specs.Faces.{face_hit}
use Rattle.tri_cover.specs.Linears.{value_at, step_of}
use Rattle.tri_cover.specs.declared.face.Face.{Face}
use Rattle.depth_raster.specs.Mixing.{number_at, change_of, AreColours}
use Rattle.span_shading.specs.Means.{IsMeanOf, IsSmallMean, Stays}
use Rattle.span_shading.specs.declared.wide.WideWeight.{WideWeight}
use Rattle.depth_raster.specs.declared.blocks.Block.{Block}
use Rattle.depth_raster.specs.declared.means.Means.{Means}

-- the weight is that of the face at the pixel
pub record IsWeightAt (f : Face) (px py : ℕ) (w : WideWeight) : Type 0 where
  pub here_is : w.here ≡ value_at f.edges.sum px py
  pub step_is : w.step ≡ step_of f.edges.sum

-- the numbers of all three are small enough for a settling
pub record AreSmallMeans (m : Means) : Type 0 where
  pub red : IsSmallMean m.red
  pub green : IsSmallMean m.green
  pub blue : IsSmallMean m.blue

-- the numbers at the next pixel are small
pub record DoFit (m : Means) : Type 0 where
  pub red : IsWithin (2 ^ 97) (m.red.rest +ℤ m.red.change)
  pub green : IsWithin (2 ^ 97) (m.green.rest +ℤ m.green.change)
  pub blue : IsWithin (2 ^ 97) (m.blue.rest +ℤ m.blue.change)
  pub weight : IsWithin (2 ^ 82) (m.weight.here +ℤ m.weight.step)

-- the means are of the face at the pixel: each leaves what is left of its channel, whether it is the quotient or not
pub record AreMeansAt (f : Face) (px py : ℕ) (m : Means) : Type 0 where
  pub weight : IsWeightAt f px py m.weight
  pub red : IsMeanOf (number_at f px py 0) (change_of f 0) m.weight m.red
  pub green : IsMeanOf (number_at f px py 1) (change_of f 1) m.weight m.green
  pub blue : IsMeanOf (number_at f px py 2) (change_of f 2) m.weight m.blue
  pub bytes : AreColours f.colours

-- the colour of means
abbrev pub colour_by : Means → List ℕ
colour_by m = m.red.mean ∷ m.green.mean ∷ m.blue.mean ∷ []

-- each of the means is the quotient here, and so many pixels further on
pub record AreEven (m : Means) (count : ℕ) : Type 0 where
  pub red : Stays m.red m.weight count
  pub green : Stays m.green m.weight count
  pub blue : Stays m.blue m.weight count

-- the colour at a pixel of a block is that of the face, where it is hit there
abbrev pub shaded_within : Face → Block → (q r : ℕ) → (before after : List ℕ) → Type 0
shaded_within f b q r before after = IfSome (face_hit f (b.left + q) (b.first + r)) (λ h. after ≡ h.colour)

-- the colour at a pixel is this
abbrev pub filled : (colour : List ℕ) → (q r : ℕ) → (before after : List ℕ) → Type 0
filled colour q r before after = after ≡ colour
