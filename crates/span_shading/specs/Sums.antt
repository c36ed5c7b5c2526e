-- Weighed sums of channels along a row of pixels.
use Rattle.std.specs.Prelude.{◌≡◌, ℕ, ◌+ℤ◌}
use Rattle.span_shading.specs.Mixing.{mix}
use Rattle.span_shading.specs.declared.lines.Line.{Line}
use Rattle.span_shading.specs.declared.lines.Sum.{Sum}
use Rattle.span_shading.specs.declared.lines.Weight.{Weight}

-- the sum is that of three values of a channel
pub record IsSumOf (x y z : ℕ) (first second third : Line) (s : Sum) : Type 0 where
  pub here_is : s.here ≡ mix x y z first.here second.here third.here
  pub step_is : s.step ≡ mix x y z first.step second.step third.step

-- the weight is that of three edge values
pub record IsWeightOf (first second third : Line) (w : Weight) : Type 0 where
  pub here_is : w.here ≡ first.here +ℤ second.here +ℤ third.here
  pub step_is : w.step ≡ first.step +ℤ second.step +ℤ third.step

-- t is s at the next pixel
pub record IsNextSum (s t : Sum) : Type 0 where
  pub here_is : t.here ≡ s.here +ℤ s.step
  pub step_is : t.step ≡ s.step

-- v is w at the next pixel
pub record IsNextWeight (w v : Weight) : Type 0 where
  pub here_is : v.here ≡ w.here +ℤ w.step
  pub step_is : v.step ≡ w.step
