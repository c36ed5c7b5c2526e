use Rattle.std.proofs.Common.{◌≡◌, ◌∙◌, lit<, to_z, of_z, subst, rules, IsTrue, ◌↔◌}
use Rattle.std.specs.Prelude.{ℤ}
use mir.Syntax.{w64}
use Rattle.fx_math.proofs.Size.{back}
use Rattle.span_shading.specs.Mixing.{ahead}
use Rattle.span_shading.specs.Quotients.{IsMean}
use Rattle.span_shading.proofs.Words.{kept}
use Rattle.span_shading.proofs.spans.is_kept.Goals as goal

pub returns-then-is_mean : goal.returns-then-is_mean
returns-then-is_mean c =
    let a = c.args in
    let s = a.sum.now in
    let w = a.weight.now in
    let found = c.is_mean-then-is_mean.result in
    let number : to_z w64 (of_z w64 c.ahead.result) ≡ ahead s.here s.step a.count = back w64 c.ahead.ensures.bound (lit< tt) ∙ c.ahead.ensures.value in
    let weight : to_z w64 (of_z w64 c.ahead-then-is_mean.result) ≡ ahead w.here w.step a.count = back w64 c.ahead-then-is_mean.ensures.bound (lit< tt) ∙ c.ahead-then-is_mean.ensures.value in
    let first = kept s.here w.here a.mean s.here_small w.here_small (c.is_mean.ensures.0 (search rules)) in
    let last = subst (λ (z : ℤ). IsTrue found ↔ IsMean (ahead s.here s.step a.count) z a.mean) weight
    (subst (λ (z : ℤ). IsTrue found ↔ IsMean z (to_z w64 (of_z w64 c.ahead-then-is_mean.result)) a.mean) number c.is_mean-then-is_mean.ensures) in
    (λ t. record { first = first; last = last.0 t }, λ ends. last.1 ends.last)
