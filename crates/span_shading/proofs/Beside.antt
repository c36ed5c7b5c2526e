-- A mean beside another, and the weighed sum of which a mean leaves a rest.
use Rattle.std.proofs.Common.{◌≡◌, ◌+◌, ap, ◌∙◌, arith}
use Rattle.std.specs.Prelude.{ℤ, pos, ◌+ℤ◌, ◌-ℤ◌, ◌*ℤ◌}
use Rattle.std.proofs.lemmas.Int.{ints}
use Rattle.fx_math.proofs.Ring.{expand, linear, order, times_one}
use Rattle.span_shading.specs.Means.{IsMeanOf}
use Rattle.span_shading.specs.declared.wide_means.Mean.{Mean}
use Rattle.span_shading.specs.declared.wide.WideWeight.{WideWeight}

left_less : (number w m : ℤ) → (number -ℤ m *ℤ w) +ℤ w ≡ number -ℤ (m -ℤ pos 1) *ℤ w
left_less number w m = simp expand (omega (arith, linear, order, times_one w))

left_more : (number w m : ℤ) → (number -ℤ m *ℤ w) -ℤ w ≡ number -ℤ (m +ℤ pos 1) *ℤ w
left_more number w m = simp expand (omega (arith, linear, order, times_one w))

pub mean_less : (number step : ℤ) (w : WideWeight) (m n : Mean) → IsMeanOf number step w m → n.mean + 1 ≡ m.mean → n.rest ≡ m.rest +ℤ w.here → n.change ≡ m.change +ℤ w.step → IsMeanOf number step w n
mean_less number step w m n is mean rest change =
    let one : pos m.mean -ℤ pos 1 ≡ pos n.mean = omega (arith, ints, mean) in
    record {
      rest_is = rest ∙ ap (λ (z : ℤ). z +ℤ w.here) is.rest_is ∙ left_less number w.here (pos m.mean) ∙ ap (λ (z : ℤ). number -ℤ z *ℤ w.here) one;
      change_is = change ∙ ap (λ (z : ℤ). z +ℤ w.step) is.change_is ∙ left_less step w.step (pos m.mean) ∙ ap (λ (z : ℤ). step -ℤ z *ℤ w.step) one;
    }

pub mean_more : (number step : ℤ) (w : WideWeight) (m n : Mean) → IsMeanOf number step w m → n.mean ≡ m.mean + 1 → n.rest ≡ m.rest -ℤ w.here → n.change ≡ m.change -ℤ w.step → IsMeanOf number step w n
mean_more number step w m n is mean rest change =
    let one : pos m.mean +ℤ pos 1 ≡ pos n.mean = omega (arith, ints, mean) in
    record {
      rest_is = rest ∙ ap (λ (z : ℤ). z -ℤ w.here) is.rest_is ∙ left_more number w.here (pos m.mean) ∙ ap (λ (z : ℤ). number -ℤ z *ℤ w.here) one;
      change_is = change ∙ ap (λ (z : ℤ). z -ℤ w.step) is.change_is ∙ left_more step w.step (pos m.mean) ∙ ap (λ (z : ℤ). step -ℤ z *ℤ w.step) one;
    }

-- the number of which a mean leaves a rest
pub number_whole : (number w r m : ℤ) → r ≡ number -ℤ m *ℤ w → r +ℤ m *ℤ w ≡ number
number_whole number w r m is = omega (arith, order, is)
