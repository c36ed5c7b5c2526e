-- The two steps on the word of a log's past keep its table's rule, which allows every word.
use Rattle.std.proofs.Common.{ℕ, [], ◌∷◌, ◌++◌, refl}
use mathlib.Core.Option.{some}
use Rattle.atomic_table.specs.Table.{Me, step, Allows, keeps}
use Rattle.told_log.specs.Steps.{lists, Adds, Tells}
use Rattle.told_log.specs.declared.past.Lists.{Lists}

module _ {T : Type 0} (slots id : ℕ) (me : Me T (Lists T)) (item : T) where
  pub allows_add : Allows (λ _. Unit {0}) slots id me 0 (λ n. n) (Adds (step slots 0 0 0 (some item)) me)
  allows_add _ _ _ _ _ = (lists (me.0.all ++ item ∷ []) me.0.told, keeps, tt, tt, (item, refl, refl))

  pub allows_tell : Allows (λ _. Unit {0}) slots id me 0 (λ n. n) (Tells (step slots 0 0 0 (some item)) me)
  allows_tell _ _ _ _ _ = (lists me.0.all (me.0.told ++ item ∷ []), keeps, tt, tt, (item, refl, refl))
