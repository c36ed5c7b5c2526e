-- What clauses see of a list of serials that is being made.
use Rattle.std.specs.Prelude.{ℕ, List}

-- The serials so far, and how many more have room.
pub record SerialsSoFar : Type 0 where
  pub items : List ℕ
  pub spare : ℕ
