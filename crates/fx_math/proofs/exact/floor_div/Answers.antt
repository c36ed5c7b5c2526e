use Rattle.std.proofs.Common.{ℤ, sym, subst, arith}
use Rattle.std.proofs.lemmas.Int.{to_z-of_z}
use Rattle.fx_math.specs.Laws.{IsFloor}
use Rattle.fx_math.proofs.Floor.{floor_is_greatest}
use Rattle.fx_math.proofs.exact.floor_div.Goals as goal

pub returns-clause-value : goal.returns-clause-value
returns-clause-value c = grind (arith, to_z-of_z)

pub returns-clause-greatest : goal.returns-clause-greatest
returns-clause-greatest c =
    subst (λ (q : ℤ). IsFloor c.args.n c.args.d q) (sym (returns-clause-value c))
    (floor_is_greatest c.args.n c.args.d c.requires.nonzero)
