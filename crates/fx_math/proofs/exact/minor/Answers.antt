use Rattle.std.proofs.Common.{ℤ, sym, subst, arith}
use Rattle.std.proofs.lemmas.Int.{to_z-of_z}
use Rattle.fx_math.specs.Limits.{minor_limit}
use Rattle.fx_math.specs.Within.{IsWithin}
use Rattle.fx_math.proofs.Size.{within_sub, within_mul}
use Rattle.fx_math.proofs.exact.minor.Goals as goal

pub returns-clause-value : goal.returns-clause-value
returns-clause-value c = grind (arith, to_z-of_z)

pub returns-clause-bound : goal.returns-clause-bound
returns-clause-bound c =
    subst (λ (z : ℤ). IsWithin minor_limit z) (sym (returns-clause-value c))
    (within_sub (within_mul c.requires.a c.requires.d) (within_mul c.requires.b c.requires.c))
