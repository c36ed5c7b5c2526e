use Rattle.std.proofs.Common.{ℤ, ◌^◌, sym, subst, arith, lit≤}
use Rattle.std.proofs.lemmas.Int.{to_z-of_z}
use Rattle.fx_math.specs.Within.{IsWithin}
use Rattle.fx_math.proofs.Size.{within_sub, within_mul, within_more}
use Rattle.tri_cover.proofs.plane.minor.Goals as goal

pub returns-clause-value : goal.returns-clause-value
returns-clause-value c = grind (arith, to_z-of_z)

pub returns-clause-bound : goal.returns-clause-bound
returns-clause-bound c =
    subst (λ (z : ℤ). IsWithin (2 ^ 61) z) (sym (returns-clause-value c))
    (within_more (2 ^ 61) (within_sub (within_mul c.requires.a c.requires.d) (within_mul c.requires.b c.requires.c)) (lit≤ tt))
