use Rattle.std.proofs.Common.{◌≡◌, ℕ, ◌*◌, ◌/◌, ◌<◌, ap, sym, ◌∙◌, subst, arith}
use Rattle.std.specs.Prelude.{ℤ, pos, unsigned_abs}
use Rattle.std.proofs.lemmas.Int.{ints}
use Rattle.span_shading.specs.Quotients.{IsMean}
use Rattle.span_shading.proofs.Means.{quotient_mean}
use Rattle.span_shading.proofs.wide_quotients.quotient.Goals as goal

pub returns : goal.returns
returns c = λ channel.
    let a = c.args in
    let n = unsigned_abs a.number in
    let w = unsigned_abs a.weight in
    let number : a.number ≡ pos n = omega (arith, ints, channel.whole) in
    let weight : a.weight ≡ pos w = omega (arith, ints, channel.some) in
    let some : 0 < w = omega (arith, ints, channel.some) in
    let top : c.unsigned_abs.result ≡ n = omega (arith, ints, c.unsigned_abs.ensures) in
    let bottom : c.unsigned_abs-2.result ≡ w = omega (arith, ints, c.unsigned_abs-2.ensures) in
    let most : n < 256 * w = omega (arith, ints, channel.most, channel.whole, channel.some) in
    let is : c.byte_quotient.result ≡ n / w =
    c.byte_quotient.ensures (subst (λ (k : ℕ). k < 256 * c.unsigned_abs-2.result) (sym top) (subst (λ (k : ℕ). n < 256 * k) (sym bottom) most))
    ∙ ap (λ (k : ℕ). k / c.unsigned_abs-2.result) top ∙ ap (λ (k : ℕ). n / k) bottom in
    subst (λ (k : ℕ). IsMean a.number a.weight k) (sym is)
    (subst (λ (z : ℤ). IsMean z a.weight (n / w)) (sym number) (subst (λ (z : ℤ). IsMean (pos n) z (n / w)) (sym weight) (quotient_mean n w some)))
