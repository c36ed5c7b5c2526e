use Rattle.std.proofs.Common.{◌≡◌, ℤ, ◌*ℤ◌, ◌*◌, ◌^◌, pos, w64, sym, subst, arith, ap, ◌∙◌}
use Rattle.std.proofs.lemmas.Int.{ints, to_z-of_z}
use Rattle.fx_math.specs.Within.{IsWithin}
use Rattle.fx_math.proofs.Size.{within_mul}
use Rattle.fx_math.proofs.Ring.{expand, linear}
use Rattle.tri_cover.proofs.FaceValues.{place_within, two_within}
use Rattle.tri_cover.proofs.linear.times.Goals as goal

doubled : (x y : ℤ) → pos 2 *ℤ (x *ℤ y) ≡ (pos 2 *ℤ x) *ℤ y
doubled x y = simp expand (omega (arith, linear))

pub returns-clause-value : goal.returns-clause-value
returns-clause-value c =
    omega (arith, ints, c.product.ensures.bound.size) ∙ ap (λ (z : ℤ). pos 2 *ℤ z) value ∙ doubled c.args.slope (pos c.args.place)
  where
    value : c.product.result ≡ c.args.slope *ℤ pos c.args.place
    value = c.product.ensures.value ∙ ap (λ (z : ℤ). z *ℤ pos c.args.place) (to_z-of_z w64 c.args.slope c.ranges.slope)

pub returns-clause-bound : goal.returns-clause-bound
returns-clause-bound c =
    subst (λ (z : ℤ). IsWithin (3 * 2 ^ 72) z) (sym (returns-clause-value c))
    (within_mul (within_mul two_within c.requires.slope) (place_within c.args.place c.requires.place))
