-- The places of the chosen children, as a range.
use Rattle.std.specs.Prelude.{◌≡◌, ℕ, ◌-◌, ◌≤◌, List, map, slice_index, length}
use Rattle.std.specs.List.{range_with_len}
use Rattle.pf_model.specs.declared.nodes.Chosen.{Chosen}
use Rattle.pf_model.specs.Walks.{shown_children}

-- the places from the first on, each with its child
abbrev pub places : List ℕ → ℕ → ℕ → List (ℕ × ℕ)
places cs from len = map (λ k. (k, slice_index cs k)) (range_with_len from len)

-- the chosen children of each list of this length stand at the places from the first to before the last
pub record ArePlaces (chosen : Chosen) (children from to : ℕ) : Type 0 where
  pub ordered : from ≤ to
  pub within : to ≤ children
  pub are : (cs : List ℕ) → length cs ≡ children → shown_children chosen cs ≡ places cs from (to - from)
