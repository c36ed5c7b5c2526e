-- Points, affine matrices and boxes as plain records, without ranges: what clauses and definitions speak of.
use Rattle.std.specs.Prelude.{List, ℤ, ◌≤ℤ◌}
use Rattle.fx_math.specs.Within.{entry, row_at}

-- X is right, Y forward and Z up
pub record Point : Type 0 where
  pub x : ℤ
  pub y : ℤ
  pub z : ℤ

abbrev pub point : ℤ → ℤ → ℤ → Point
point x y z = record { x = x; y = y; z = z }

-- An affine step on row vectors: the rows of its linear matrix, which are the images of the unit vectors along X, Y and Z,
-- and its translation.
pub record Matrix : Type 0 where
  pub x : Point
  pub y : Point
  pub z : Point
  pub t : Point

-- an axis-aligned box
pub record Bounds : Type 0 where
  pub lo : Point
  pub hi : Point

-- lo is at most hi in each coordinate
pub record IsBox (b : Bounds) : Type 0 where
  pub x_ordered : b.lo.x ≤ℤ b.hi.x
  pub y_ordered : b.lo.y ≤ℤ b.hi.y
  pub z_ordered : b.lo.z ≤ℤ b.hi.z

-- the box contains the point
pub record Holds (b : Bounds) (p : Point) : Type 0 where
  pub x_low : b.lo.x ≤ℤ p.x
  pub x_high : p.x ≤ℤ b.hi.x
  pub y_low : b.lo.y ≤ℤ p.y
  pub y_high : p.y ≤ℤ b.hi.y
  pub z_low : b.lo.z ≤ℤ p.z
  pub z_high : p.z ≤ℤ b.hi.z

-- the first box lies in the second
pub record IsInside (part whole : Bounds) : Type 0 where
  pub x_low : whole.lo.x ≤ℤ part.lo.x
  pub x_high : part.hi.x ≤ℤ whole.hi.x
  pub y_low : whole.lo.y ≤ℤ part.lo.y
  pub y_high : part.hi.y ≤ℤ whole.hi.y
  pub z_low : whole.lo.z ≤ℤ part.lo.z
  pub z_high : part.hi.z ≤ℤ whole.hi.z

-- the vector of three numbers
abbrev pub vector : List ℤ → Point
vector row = point (entry row 0) (entry row 1) (entry row 2)

-- the step of these rows and this translation
abbrev pub matrix : List (List ℤ) → Point → Matrix
matrix a t = record { x = vector (row_at a 0); y = vector (row_at a 1); z = vector (row_at a 2); t = t }
