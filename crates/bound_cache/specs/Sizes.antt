-- What the table of a cache keeps.
use Rattle.std.specs.Prelude.{◌≡◌, ℕ, ◌≤◌, List, slice_index_or}
use Rattle.bound_cache.specs.declared.marks.Mark.{Mark}
use Rattle.bound_cache.specs.declared.marks.Mark.TheVariants.{Clean}

-- only ids below this have a mark that is not clean
pub record AreCleanFrom (first : ℕ) (marks : List Mark) : Type 0 where
  pub narrow : first ≤ 65536
  pub clean : (id : ℕ) → first ≤ id → slice_index_or marks id Clean ≡ Clean
