-- Ways up from a node.
use Rattle.std.specs.Prelude.{◌≡◌, ⊤, ℕ, ◌≤◌, Bool, true, false, ◌==◌, ◌||◌, List, [], ◌∷◌, length, reverse, count_by, slice_index_or}
use Rattle.std.specs.List.{list_any}
use Rattle.pf_model.specs.Graphs.{Look, is_below}
use Rattle.pf_model.specs.Limits.{has_child}

abbrev pub is_in : ℕ → List ℕ → Bool
is_in id ids = list_any (λ other. other == id) ids

-- no id stands twice
abbrev pub IsEachOnce : List ℕ → Type 0
IsEachOnce [] = ⊤
IsEachOnce (x ∷ xs) = (is_in x xs ≡ false) × IsEachOnce xs

-- The marks tell which ids are listed, each once: no more are written than there are ids, and there is memory for all
-- marks and room for all ids.
pub record IsMarked (marks : List Bool) (ids : List ℕ) (capacity room : ℕ) : Type 0 where
  pub few : length marks ≤ 65536
  pub reserved : 65536 ≤ capacity
  pub told : (b : ℕ) → slice_index_or marks b false ≡ is_in b (reverse ids)
  pub counted : count_by (λ m. m) marks ≡ length ids
  pub roomy : 65536 ≤ room
  pub once : IsEachOnce (reverse ids)

-- every node that has one of these as a child stands after it
abbrev pub LeadUp : Look → List ℕ → Type 0
LeadUp look [] = ⊤
LeadUp look (x ∷ xs) = ((y : ℕ) → has_child look y x ≡ true → is_in y xs ≡ true) × LeadUp look xs

-- a node and those above it, and no others
abbrev pub IsUpFrom : Look → List ℕ → ℕ → Type 0
IsUpFrom look ids id = (b : ℕ) → is_in b ids ≡ (b == id || is_below look b id)
