-- The means of three channels along a span of pixels.
use Rattle.std.specs.Prelude.{◌≡◌, ℕ, ◌*◌, ◌≤◌, ◌^◌, ◌+ℤ◌}
use Rattle.fx_math.specs.Within.{IsWithin}
use Rattle.span_shading.specs.Quotients.{IsMean, IsChannel}
use Rattle.span_shading.specs.Mixing.{ahead}
use Rattle.span_shading.specs.Sums.{IsNextSum, IsNextWeight}
use Rattle.span_shading.specs.declared.lines.Sum.{Sum}
use Rattle.span_shading.specs.declared.lines.Weight.{Weight}
use Rattle.span_shading.specs.declared.spans.Shade.{Shade}
use Rattle.span_shading.specs.declared.spans.Span.{Span}

-- the span has these sums and this weight
pub record IsSpanOf (red green blue : Sum) (weight : Weight) (s : Span) : Type 0 where
  pub red_is : s.red ≡ red
  pub green_is : s.green ≡ green
  pub blue_is : s.blue ≡ blue
  pub weight_is : s.weight ≡ weight

-- the shade has the means of the three sums at the pixel
pub record HasShade (s : Span) (shade : Shade) : Type 0 where
  pub red : IsMean s.red.here s.weight.here shade.red
  pub green : IsMean s.green.here s.weight.here shade.green
  pub blue : IsMean s.blue.here s.weight.here shade.blue

-- where the sums and the weight are those of a pixel that is covered, the shade has their means
pub record IsShade (s : Span) (shade : Shade) : Type 0 where
  pub red : IsChannel s.red.here s.weight.here → IsMean s.red.here s.weight.here shade.red
  pub green : IsChannel s.green.here s.weight.here → IsMean s.green.here s.weight.here shade.green
  pub blue : IsChannel s.blue.here s.weight.here → IsMean s.blue.here s.weight.here shade.blue

-- the numbers at the next pixel are small
pub record DoFit (s : Span) : Type 0 where
  pub red : IsWithin (3 * 2 ^ 60) (s.red.here +ℤ s.red.step)
  pub green : IsWithin (3 * 2 ^ 60) (s.green.here +ℤ s.green.step)
  pub blue : IsWithin (3 * 2 ^ 60) (s.blue.here +ℤ s.blue.step)
  pub weight : IsWithin (3 * 2 ^ 52) (s.weight.here +ℤ s.weight.step)

-- t is s at the next pixel
pub record IsNextSpan (s t : Span) : Type 0 where
  pub red : IsNextSum s.red t.red
  pub green : IsNextSum s.green t.green
  pub blue : IsNextSum s.blue t.blue
  pub weight : IsNextWeight s.weight t.weight

-- the channel has this mean at the pixel, and at the one so many further on
pub record HasMeanAtEnds (s : Sum) (w : Weight) (count mean : ℕ) : Type 0 where
  pub first : IsMean s.here w.here mean
  pub last : IsMean (ahead s.here s.step count) (ahead w.here w.step count) mean

-- so have all three
pub record HasShadeAtEnds (s : Span) (count : ℕ) (shade : Shade) : Type 0 where
  pub red : HasMeanAtEnds s.red s.weight count shade.red
  pub green : HasMeanAtEnds s.green s.weight count shade.green
  pub blue : HasMeanAtEnds s.blue s.weight count shade.blue

-- the channel has this mean at the pixel, and at all up to so many further on
abbrev pub HasMeanTo : Sum → Weight → (count mean : ℕ) → Type 0
HasMeanTo s w count mean = (n : ℕ) → n ≤ count → IsMean (ahead s.here s.step n) (ahead w.here w.step n) mean

-- so have all three
pub record HasShadeTo (s : Span) (count : ℕ) (shade : Shade) : Type 0 where
  pub red : HasMeanTo s.red s.weight count shade.red
  pub green : HasMeanTo s.green s.weight count shade.green
  pub blue : HasMeanTo s.blue s.weight count shade.blue
