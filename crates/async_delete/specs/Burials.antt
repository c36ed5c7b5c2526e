-- What clauses see of graves.
use Rattle.std.specs.Prelude.{ℕ, List}
use Rattle.pf_model.specs.Copies.{GraveState}

-- The graves in the order of burial, and how many more have room.
pub record GravesSoFar : Type 0 where
  pub graves : List GraveState
  pub spare : ℕ

-- the grave of a node of this serial that the frame `last` is the last to name
abbrev pub grave : ℕ → ℕ → GraveState
grave serial last = record { serial = serial; last = last }
