-- What a step at the table of claims tells.
use Rattle.std.specs.Prelude.{◌≡◌, ◌≢◌, ℕ, ◌+◌, List, [], ◌∷◌, slice_get, Some, None}
use Rattle.atomic_table.specs.Table.{Me, Step}
use Rattle.self_scheduling.specs.declared.view.View.{View}

module _ {T : Type 0} where
  -- the seat has the item whose word it found 0, as it was, and else nothing; in either case it is claimed now
  abbrev pub Claims : List T → Step T → Me T View → ℕ → Me T View → Type 0
  Claims items step before found after =
      (found ≡ 0 → (x : T) × (slice_get items step.word ≡ Some x)
      × (after ≡ (record before.0 { held = Some step.word; past = step.word + 1 }, (step.word, x) ∷ [])))
      × (found ≢ 0 → after ≡ (record before.0 { past = step.word + 1 }, []))

  -- the seat has nothing any more
  abbrev pub GivesBack : Step T → Me T View → ℕ → Me T View → Type 0
  GivesBack step before found after = after ≡ (record before.0 { held = None }, [])
