use Rattle.std.proofs.Common.{ℤ, ◌*ℤ◌, ◌^◌, pos, FitsSigned, sym, subst, arith, lit<, lit≤}
use mir.Syntax.{w64}
use Rattle.std.proofs.lemmas.Int.{to_z-of_z}
use Rattle.fx_math.specs.Within.{IsWithin}
use Rattle.fx_math.proofs.Size.{fits, within_mul, within_more}
use Rattle.edge_values.proofs.Passed.{place_within}
use Rattle.edge_values.proofs.small.product.Goals as goal

pub returns-clause-value : goal.returns-clause-value
returns-clause-value c =
    let small : FitsSigned w64 (c.args.step *ℤ pos c.args.place) =
    fits w64 (within_mul c.requires.step (place_within c.args.place c.requires.place)) (lit< tt) in
    grind (arith, to_z-of_z)

pub returns-clause-bound : goal.returns-clause-bound
returns-clause-bound c =
    subst (λ (z : ℤ). IsWithin (2 ^ 50) z) (sym (returns-clause-value c))
    (within_more (2 ^ 50) (within_mul c.requires.step (place_within c.args.place c.requires.place)) (lit≤ tt))
