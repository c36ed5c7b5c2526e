use Rattle.std.proofs.Common.{ℤ, ◌*ℤ◌, ◌^◌, FitsSigned, sym, subst, arith, lit<}
use mir.Syntax.{w128}
use Rattle.std.proofs.lemmas.Int.{to_z-of_z}
use Rattle.fx_math.specs.Within.{IsWithin}
use Rattle.fx_math.proofs.Size.{fits, within_mul}
use Rattle.tri_cover.proofs.plane.term.Goals as goal

pub returns-clause-value : goal.returns-clause-value
returns-clause-value c =
    let small : FitsSigned w128 (c.args.ray *ℤ c.args.normal) = fits w128 (within_mul c.requires.ray c.requires.normal) (lit< tt) in
    grind (arith, to_z-of_z)

pub returns-clause-bound : goal.returns-clause-bound
returns-clause-bound c =
    subst (λ (z : ℤ). IsWithin (2 ^ 78) z) (sym (returns-clause-value c)) (within_mul c.requires.ray c.requires.normal)
