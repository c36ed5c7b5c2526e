use Rattle.std.proofs.Common.{ℤ, sym, subst, arith, lit<}
use Rattle.std.proofs.lemmas.Int.{to_z-of_z}
use Rattle.fx_math.specs.Limits.{dot_limit}
use Rattle.fx_math.specs.Within.{IsWithin}
use Rattle.fx_math.proofs.Floor.{floor_by_shift, floor_within}
use Rattle.fx_math.proofs.moves.whole.Goals as goal

pub returns-clause-value : goal.returns-clause-value
returns-clause-value c = grind (arith, to_z-of_z, floor_by_shift)

pub returns-clause-bound : goal.returns-clause-bound
returns-clause-bound c =
    subst (λ (z : ℤ). IsWithin dot_limit z) (sym (returns-clause-value c)) (floor_within 65536 c.requires (lit< tt))
