use Rattle.std.proofs.Common.{ℤ, ◌*ℤ◌, ◌^◌, w64, FitsSigned, sym, subst, arith, lit<}
use Rattle.std.proofs.lemmas.Int.{to_z-of_z}
use Rattle.fx_math.specs.Limits.{row_limit}
use Rattle.fx_math.specs.Within.{IsWithin}
use Rattle.fx_math.proofs.Size.{fits, within_mul}
use Rattle.fx_math.proofs.exact.times.Goals as goal

pub returns-clause-value : goal.returns-clause-value
returns-clause-value c =
    let small : FitsSigned w64 (c.args.a *ℤ c.args.b) = fits w64 (within_mul c.requires.a c.requires.b) (lit< tt) in
    grind (arith, to_z-of_z)

pub returns-clause-bound : goal.returns-clause-bound
returns-clause-bound c =
    subst (λ (z : ℤ). IsWithin (row_limit ^ 2) z) (sym (returns-clause-value c)) (within_mul c.requires.a c.requires.b)
