use Rattle.std.proofs.Common.{◌≡◌, to_z, of_z, ap, ◌∙◌, lit<, subst, rules, IsTrue, ◌↔◌}
use mir.Syntax.{w128}
use Rattle.std.specs.Prelude.{ℤ, pos, ◌+ℤ◌, ◌*ℤ◌}
use Rattle.std.proofs.lemmas.Int.{to_z-of_z}
use Rattle.fx_math.proofs.Size.{back}
use Rattle.span_shading.specs.Quotients.{IsLeft}
use Rattle.span_shading.proofs.wide_means.Mean.stays.Goals as goal

pub returns-then-is_settled : goal.returns-then-is_settled
returns-then-is_settled c =
    let a = c.args in
    let m = a.self.now in
    let w = a.weight.now in
    let found = c.is_left.result in
    let rest : to_z w128 (of_z w128 m.rest) ≡ m.rest = back w128 c.requires.small.rest_within (lit< tt) in
    let change : to_z w128 (of_z w128 m.change) ≡ m.change = back w128 c.requires.small.change_within (lit< tt) in
    let there : to_z w128 (of_z w128 a.there) ≡ w.here +ℤ w.step *ℤ pos a.count = to_z-of_z w128 a.there c.ranges.there ∙ c.requires.there in
    let ahead : to_z w128 (of_z w128 c.ahead.result) ≡ m.rest +ℤ m.change *ℤ pos a.count =
    back w128 c.ahead.ensures.bound (lit< tt) ∙ c.ahead.ensures.value
    ∙ ap (λ (z : ℤ). z +ℤ to_z w128 (of_z w128 m.change) *ℤ pos a.count) rest
    ∙ ap (λ (z : ℤ). m.rest +ℤ z *ℤ pos a.count) change in
    let left = subst (λ (z : ℤ). IsTrue found ↔ IsLeft z (w.here +ℤ w.step *ℤ pos a.count)) ahead
    (subst (λ (z : ℤ). IsTrue found ↔ IsLeft (to_z w128 (of_z w128 c.ahead.result)) z) there c.is_left.ensures) in
    (λ t. record { here = c.is_settled.ensures.0 (search rules); there = left.0 t }, λ stays. left.1 stays.there)
