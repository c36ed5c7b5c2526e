-- What contracts see of a log.
use Rattle.std.specs.Prelude.{◌≡◌, ℕ, ◌+◌, ◌-◌, ◌^◌, ◌<◌, ◌≤◌, Option, Some, None, List, [], ◌∷◌, ◌++◌, length, drop}
use Rattle.told_log.specs.declared.past.Past.{Past}

-- A log: all its entries, oldest first; how many of them were told, the oldest ones; how many more have room.
pub record Entries (T : Type 0) : Type 0 where
  pub entries : List T
  pub told : ℕ
  pub spare : ℕ

module _ {T : Type 0} where
  -- all entries that a past notes, oldest first
  abbrev pub all_in : Past T → List T
  all_in past = past.seat.me.0.all

  -- those of them that were told, oldest first
  abbrev pub told_in : Past T → List T
  told_in past = past.seat.me.0.told

  -- all entries of a log: none where its past was not begun
  abbrev pub all_of : Option (Past T) → List T
  all_of (Some past) = all_in past
  all_of None = []

  -- those that were told
  abbrev pub told_of : Option (Past T) → List T
  told_of (Some past) = told_in past
  told_of None = []

  -- how many places are free, with so many places and so many of them taken: none where the past was not begun
  abbrev pub free_of : Option (Past T) → ℕ → ℕ → ℕ
  free_of (Some past) places taken = places - taken
  free_of None places taken = 0

  -- the oldest entry that was not told is told now; or all were told before, and nothing changed
  abbrev pub HasTold : Entries T → Entries T → Option T → Type 0
  HasTold old new (Some item) = (new.entries ≡ old.entries) × (new.told ≡ old.told + 1)
      × (drop old.told old.entries ≡ item ∷ drop new.told old.entries)
  HasTold old new None = (new.entries ≡ old.entries) × (new.told ≡ old.told) × (old.told ≡ length old.entries)

-- What the type of a log keeps: all entries are those that were told and then those that are kept, their number is that of
-- all, the room is free, and all places that it promises can be counted.
pub record KeepsLog {T : Type 0} (past : Option (Past T)) (kept : List T) (free : ℕ) (many room : ℕ) : Type 0 where
  pub whole : all_of past ≡ told_of past ++ kept
  pub counted : many ≡ length (all_of past)
  pub held : room ≤ free
  pub few : many + room < 2 ^ 64
