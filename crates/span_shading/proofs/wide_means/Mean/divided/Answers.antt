use Rattle.std.proofs.Common.{◌≡◌, ℕ, to_z, of_z, ap, sym, ◌∙◌, lit<, subst}
use mir.Syntax.{w128}
use Rattle.std.specs.Prelude.{ℤ, pos, ◌+ℤ◌, ◌*ℤ◌}
use Rattle.fx_math.proofs.Size.{back}
use Rattle.span_shading.specs.Means.{IsMeanOf}
use Rattle.span_shading.specs.Quotients.{IsMean, IsChannel}
use Rattle.span_shading.proofs.Means.{mean_left}
use Rattle.span_shading.proofs.Beside.{number_whole}
use Rattle.span_shading.proofs.wide_means.Mean.divided.Goals as goal

number_is : (c : goal.After-new) (number step : ℤ) → IsMeanOf number step c.args.weight.now c.args.self.now → to_z w128 (of_z w128 c.whole-number.result) ≡ number
number_is c number step is =
    let m = c.args.self.now in
    let w = c.args.weight.now in
    back w128 c.whole-number.ensures.bound (lit< tt) ∙ c.whole-number.ensures.value
    ∙ ap (λ (z : ℤ). z +ℤ pos m.mean *ℤ to_z w128 (of_z w128 w.here)) (back w128 c.requires.rest_within (lit< tt))
    ∙ ap (λ (z : ℤ). m.rest +ℤ pos m.mean *ℤ z) (back w128 w.here_small (lit< tt))
    ∙ number_whole number w.here m.rest (pos m.mean) is.rest_is

step_is : (c : goal.After-new) (number step : ℤ) → IsMeanOf number step c.args.weight.now c.args.self.now → to_z w128 (of_z w128 c.whole-step.result) ≡ step
step_is c number step is =
    let m = c.args.self.now in
    let w = c.args.weight.now in
    back w128 c.whole-step.ensures.bound (lit< tt) ∙ c.whole-step.ensures.value
    ∙ ap (λ (z : ℤ). z +ℤ pos m.mean *ℤ to_z w128 (of_z w128 w.step)) (back w128 c.requires.change_within (lit< tt))
    ∙ ap (λ (z : ℤ). m.change +ℤ pos m.mean *ℤ z) (back w128 w.step_small (lit< tt))
    ∙ number_whole step w.step m.change (pos m.mean) is.change_is

pub returns-clause-kept : goal.returns-clause-kept
returns-clause-kept c = λ number step is.
    let w = c.args.weight.now in
    let n = c.new.result in
    subst (λ (z : ℤ). IsMeanOf z step w n) (number_is c number step is)
    (subst (λ (z : ℤ). IsMeanOf (to_z w128 (of_z w128 c.whole-number.result)) z w n) (step_is c number step is) c.new.ensures.left)

pub returns-clause-settled : goal.returns-clause-settled
returns-clause-settled c = λ number step is channel.
    let w = c.args.weight.now in
    let n = c.new.result in
    let here : to_z w128 (of_z w128 w.here) ≡ w.here = back w128 w.here_small (lit< tt) in
    let top = number_is c number step is in
    let told = subst (λ (z : ℤ). IsChannel z w.here → IsMean z w.here c.quotient.result) top
    (subst (λ (z : ℤ). IsChannel (to_z w128 (of_z w128 c.whole-number.result)) z → IsMean (to_z w128 (of_z w128 c.whole-number.result)) z c.quotient.result) here c.quotient.ensures) in
    let mean : IsMean number w.here n.mean = subst (λ (k : ℕ). IsMean number w.here k) (sym c.new.ensures.mean) (told channel) in
    mean_left number w.here n.rest n.mean (returns-clause-kept c number step is).rest_is mean
