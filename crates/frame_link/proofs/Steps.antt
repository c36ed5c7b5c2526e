-- The two steps on the word of a `ListLink` keep its table's rule, which allows every word.
use Rattle.std.proofs.Common.{ℕ, [], ◌∷◌, ◌++◌, refl}
use mathlib.Core.Option.{some}
use Rattle.atomic_table.specs.Table.{Me, step, Allows, keeps}
use Rattle.frame_link.specs.Lists.{lists, Sends, Takes}
use Rattle.frame_link.specs.declared.list_link.Lists.{Lists}

module _ {T : Type 0} (slots id : ℕ) (me : Me T (Lists T)) (item : T) where
  pub allows_send : Allows (λ _. Unit {0}) slots id me 0 (λ n. n) (Sends (step slots 0 0 0 (some item)) me)
  allows_send _ _ _ _ _ = (lists (me.0.sent ++ item ∷ []) me.0.taken, keeps, tt, tt, (item, refl, refl))

  pub allows_take : Allows (λ _. Unit {0}) slots id me 0 (λ n. n) (Takes (step slots 0 0 0 (some item)) me)
  allows_take _ _ _ _ _ = (lists me.0.sent (me.0.taken ++ item ∷ []), keeps, tt, tt, (item, refl, refl))
