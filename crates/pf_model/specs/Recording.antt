-- What clauses see of a list of edits that is being made.
use Rattle.std.specs.Prelude.{ℕ, List}
use Rattle.pf_model.specs.declared.edits.Edit.{Edit}

-- The edits so far, and how many more have room.
pub record EditsSoFar : Type 0 where
  pub items : List Edit
  pub spare : ℕ
