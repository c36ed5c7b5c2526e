-- The depths at which a triangle is seen.
use Rattle.std.specs.Prelude.{ℕ, ◌/◌, ◌<◌, ◌≤◌}
use Rattle.edge_values.specs.declared.depths.Depths.{Depths}

-- the depth of a triangle, where its edge values have this sum, is one at which it is seen, and before the limit
pub record IsSeenBefore (t : Depths) (limit sum : ℕ) : Type 0 where
  pub near : t.near ≤ t.dividend / sum
  pub far : t.dividend / sum ≤ t.far
  pub before : t.dividend / sum < limit
