-- A table with an entry for each of the 65,536 ids or states, of which those up to the greatest that was set are written,
-- and the list of the places that are set: so that taking all back costs as many steps as are set.
use Rattle.std.specs.Prelude.{◌≡◌, ℕ, ◌-◌, ◌<◌, ◌≤◌, ◌++◌, Bool, true, ◌==◌, List, length, replicate, slice_index_or, count_by}
use Rattle.std.specs.List.{list_any}

-- a table of this width, of which the first entries are written and the others are unset
abbrev pub whole_table : {X : Type 0} → X → List X → ℕ → List X
whole_table unset written width = written ++ replicate (width - length written) unset

-- each place whose entry is set stands in the list, and the entry of each place in the list is written
pub record AreListed {X : Type 0} (is_set : X → Bool) (unset : X) (written : List X) (places : List ℕ) : Type 0 where
  pub listed : (k : ℕ) → is_set (slice_index_or written k unset) ≡ true → list_any (λ p. p == k) places ≡ true
  pub below : (i : ℕ) → i < length places → slice_index_or places i 0 < length written

-- what such a table keeps: each place once, and memory for all entries and all places where it has a width
pub record IsListedTable {X : Type 0} (is_set : X → Bool) (unset : X) (written : List X) (width room : ℕ)
    (places : List ℕ) (capacity : ℕ) : Type 0 where
  pub entries : AreListed is_set unset written places
  pub once : length places ≡ count_by is_set written
  pub within : length written ≤ width
  pub reserved : width ≤ room
  pub wide : width ≤ 65536
  pub sized : 0 < width → width ≡ 65536
  pub roomy : 0 < width → 65536 ≤ capacity
