-- The two lists of a `ListLink` in the view of its seat, and how a step changes them.
use Rattle.std.specs.Prelude.{◌≡◌, ℕ, List, [], ◌∷◌, ◌++◌}
use mathlib.Core.Option.{some}
use Rattle.atomic_table.specs.Table.{Me, Step}
use Rattle.frame_link.specs.declared.list_link.Lists.{Lists}

module _ {T : Type 0} where
  -- the lists, seen as one value
  abbrev pub lists : List T → List T → Lists T
  lists sent taken = record { sent = sent; taken = taken }

  -- nothing was sent or taken
  abbrev pub empty_lists : Lists T
  empty_lists = lists [] []

  -- the step sends the item that it announces
  abbrev pub Sends : Step T → Me T (Lists T) → ℕ → Me T (Lists T) → Type 0
  Sends step before _ after = (item : T) × (step.said ≡ some item) × (after ≡ (lists (before.0.sent ++ item ∷ []) before.0.taken, before.1))

  -- the step takes the item that it announces
  abbrev pub Takes : Step T → Me T (Lists T) → ℕ → Me T (Lists T) → Type 0
  Takes step before _ after = (item : T) × (step.said ≡ some item) × (after ≡ (lists before.0.sent (before.0.taken ++ item ∷ []), before.1))
