-- All entries of a log and those that were told, as one value, and how a step changes it.
use Rattle.std.specs.Prelude.{◌≡◌, ℕ, List, [], ◌∷◌, ◌++◌}
use mathlib.Core.Option.{some}
use Rattle.atomic_table.specs.Table.{Me, Step}
use Rattle.told_log.specs.declared.past.Lists.{Lists}

module _ {T : Type 0} where
  -- the lists, seen as one value
  abbrev pub lists : List T → List T → Lists T
  lists all told = record { all = all; told = told }

  -- there is no entry
  abbrev pub empty_lists : Lists T
  empty_lists = lists [] []

  -- the step adds the entry that it announces
  abbrev pub Adds : Step T → Me T (Lists T) → ℕ → Me T (Lists T) → Type 0
  Adds step before _ after =
      (item : T) × (step.said ≡ some item) × (after ≡ (lists (before.0.all ++ item ∷ []) before.0.told, before.1))

  -- the step tells the entry that it announces
  abbrev pub Tells : Step T → Me T (Lists T) → ℕ → Me T (Lists T) → Type 0
  Tells step before _ after =
      (item : T) × (step.said ≡ some item) × (after ≡ (lists before.0.all (before.0.told ++ item ∷ []), before.1))
