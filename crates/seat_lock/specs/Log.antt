-- A log is a list of (seat number, entry).
use Rattle.std.specs.Prelude.{◌≡◌, ◌⊎◌, ◌==◌, ℕ, if◌then◌else◌, List, [], ◌∷◌, ◌++◌}

module _ {E : Type 0} where
  -- the entries of the number k, in order
  abbrev pub of : ℕ → List (ℕ × E) → List E
  of k [] = []
  of k (x ∷ xs) = if x.0 == k then x.1 ∷ of k xs else of k xs

  -- the log without the entries of the number k
  abbrev pub without : ℕ → List (ℕ × E) → List (ℕ × E)
  without k [] = []
  without k (x ∷ xs) = if x.0 == k then without k xs else x ∷ without k xs

  -- the log gained one entry of the number k, or none
  abbrev pub Adds : ℕ → List (ℕ × E) → List (ℕ × E) → Type 0
  Adds k before after = (after ≡ before) ⊎ ((e : E) × (after ≡ before ++ (k, e) ∷ []))

  -- the log found goes on from the log seen, with no further entry of the number k
  abbrev pub Found : ℕ → List (ℕ × E) → List (ℕ × E) → Type 0
  Found k seen log = (rest : List (ℕ × E)) × (log ≡ seen ++ rest) × (of k rest ≡ [])
