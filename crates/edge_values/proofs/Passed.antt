-- Numbers of 64 and of 128 bits that are passed on or added.
use Rattle.std.proofs.Common.{◌≡◌, ℕ, ◌<◌, ◌^◌, Bool, false, ap, sym, ◌∙◌, subst, lit<, FitsSigned, to_z, of_z, arith}
use Rattle.std.specs.Prelude.{ℤ, pos, ◌+ℤ◌, IsTrue, ◌↔◌}
use Rattle.std.proofs.lemmas.Bool.{both_ways}
use Rattle.std.proofs.lemmas.Int.{to_z-of_z}
use mir.Syntax.{w64, w128}
use Rattle.fx_math.specs.Limits.{size_limit}
use Rattle.fx_math.specs.Within.{IsWithin}
use Rattle.fx_math.proofs.Size.{back}
use Rattle.edge_values.specs.Weights.{AreBelow}

pub place_within : (p : ℕ) → p < size_limit → IsWithin (2 ^ 10) (pos p)
place_within p h = record { size = omega arith }

-- two numbers that were passed on, and not found to be below 0
pub not_below : (a b : ℤ) (found : Bool) → FitsSigned w64 a → FitsSigned w64 b → found ≡ false → (IsTrue found ↔ AreBelow (to_z w64 (of_z w64 a)) (to_z w64 (of_z w64 b))) → AreBelow a b → ⊥
not_below a b found p q none is below =
    let same = subst (λ (z : ℤ). AreBelow z (to_z w64 (of_z w64 b))) (sym (to_z-of_z w64 a p)) (subst (λ (z : ℤ). AreBelow a z) (sym (to_z-of_z w64 b q)) below) in
    both_ways found none (is.1 same)

pub narrow_sum : (a b : ℤ) → FitsSigned w64 a → FitsSigned w64 b → IsWithin (2 ^ 52) (a +ℤ b) → to_z w64 (of_z w64 (to_z w64 (of_z w64 a) +ℤ to_z w64 (of_z w64 b))) ≡ a +ℤ b
narrow_sum a b f g within =
    ap (λ (u : ℤ). to_z w64 (of_z w64 (u +ℤ to_z w64 (of_z w64 b)))) (to_z-of_z w64 a f)
    ∙ ap (λ (u : ℤ). to_z w64 (of_z w64 (a +ℤ u))) (to_z-of_z w64 b g)
    ∙ back w64 within (lit< tt)

pub wide_sum : (a b : ℤ) → FitsSigned w128 a → FitsSigned w128 b → IsWithin (2 ^ 82) (a +ℤ b) → to_z w128 (of_z w128 (to_z w128 (of_z w128 a) +ℤ to_z w128 (of_z w128 b))) ≡ a +ℤ b
wide_sum a b f g within =
    ap (λ (u : ℤ). to_z w128 (of_z w128 (u +ℤ to_z w128 (of_z w128 b)))) (to_z-of_z w128 a f)
    ∙ ap (λ (u : ℤ). to_z w128 (of_z w128 (a +ℤ u))) (to_z-of_z w128 b g)
    ∙ back w128 within (lit< tt)
