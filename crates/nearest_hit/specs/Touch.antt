-- Boxes with a common point.
use Rattle.std.specs.Prelude.{Bool, ◌&&◌, ℤ, int_le}
use Rattle.fx_math.specs.Plain.{Point, Bounds, Holds}

-- the ranges from a to b and from c to d have a common number
unfoldable pub overlap : (a b c d : ℤ) → Bool
overlap a b c d = int_le a d && int_le c b

-- the ranges of the boxes overlap in each coordinate
unfoldable pub touch : Bounds → Bounds → Bool
touch b c =
    overlap b.lo.x b.hi.x c.lo.x c.hi.x && overlap b.lo.y b.hi.y c.lo.y c.hi.y
    && overlap b.lo.z b.hi.z c.lo.z c.hi.z

-- a point that both boxes hold
pub record HaveCommonPoint (b c : Bounds) : Type 0 where
  pub at : Point
  pub in_first : Holds b at
  pub in_second : Holds c at
