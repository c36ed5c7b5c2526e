-- The marks of changed ids.
use Rattle.std.specs.Prelude.{◌≡◌, ℕ, ◌≤◌, ◌<◌, Bool, true, false, nat_eq, List, length, slice_index_or}
use Rattle.std.specs.List.{list_any, IsDistinct}

-- an id is in a list
abbrev pub among : ℕ → List ℕ → Bool
among id ids = list_any (nat_eq id) ids

-- What the table of marks, the list of those set, and the room of each keep: an id has a mark exactly where it is in the
-- list, each once, past the entries that are written there is no mark, and each has room for all ids and for no more.
pub record AreMarks (table : List Bool) (table_room : ℕ) (ids : List ℕ) (room : ℕ) : Type 0 where
  pub few : length table ≤ 65536
  pub reserved : table_room ≡ 65536
  pub agree : (id : ℕ) → id < 65536 → slice_index_or table id false ≡ among id ids
  pub narrow : (id : ℕ) → among id ids ≡ true → id < 65536
  pub once : IsDistinct nat_eq ids
  pub roomy : room ≡ 65536
