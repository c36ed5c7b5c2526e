-- The spans of small faces along a row of pixels.
use Rattle.std.specs.Prelude.{◌≡◌, ℕ, List, [], ◌∷◌}
use Rattle.tri_cover.specs.Linears.{value_at, step_of}
use Rattle.tri_cover.specs.declared.face.Face.{Face}
use Rattle.tri_cover.specs.declared.linear.Linear.{Linear}
use Rattle.span_shading.specs.Sums.{IsWeightOf}
use Rattle.span_shading.specs.declared.lines.Line.{Line}
use Rattle.span_shading.specs.declared.lines.Sum.{Sum}
use Rattle.span_shading.specs.declared.lines.Weight.{Weight}
use Rattle.span_shading.specs.declared.spans.Shade.{Shade}
use Rattle.span_shading.specs.declared.spans.Span.{Span}
use Rattle.depth_raster.specs.Mixing.{mix_of, number_at, change_of}

-- the line is that of the edge value at the pixel
pub record IsLineAt (g : Linear) (px py : ℕ) (l : Line) : Type 0 where
  pub here_is : l.here ≡ value_at g px py
  pub step_is : l.step ≡ step_of g

-- the sum is the channel i of colours, weighed by three lines
pub record IsMixOf (colours : List (List ℕ)) (i : ℕ) (first second third : Line) (s : Sum) : Type 0 where
  pub here_is : s.here ≡ mix_of colours i first.here second.here third.here
  pub step_is : s.step ≡ mix_of colours i first.step second.step third.step

-- the span has the channels of colours, weighed by three lines
pub record AreMixes (colours : List (List ℕ)) (first second third : Line) (s : Span) : Type 0 where
  pub red : IsMixOf colours 0 first second third s.red
  pub green : IsMixOf colours 1 first second third s.green
  pub blue : IsMixOf colours 2 first second third s.blue
  pub weight : IsWeightOf first second third s.weight

-- the sum is that of the channel i of the face at the pixel
pub record IsSumAt (f : Face) (px py i : ℕ) (s : Sum) : Type 0 where
  pub here_is : s.here ≡ number_at f px py i
  pub step_is : s.step ≡ change_of f i

-- the weight is that of the face at the pixel
pub record IsTotalAt (f : Face) (px py : ℕ) (w : Weight) : Type 0 where
  pub here_is : w.here ≡ value_at f.edges.sum px py
  pub step_is : w.step ≡ step_of f.edges.sum

-- the span is that of the face at the pixel
pub record IsSpanAt (f : Face) (px py : ℕ) (s : Span) : Type 0 where
  pub red : IsSumAt f px py 0 s.red
  pub green : IsSumAt f px py 1 s.green
  pub blue : IsSumAt f px py 2 s.blue
  pub weight : IsTotalAt f px py s.weight

-- the colour of a shade
abbrev pub shade_colour : Shade → List ℕ
shade_colour h = h.red ∷ h.green ∷ h.blue ∷ []
