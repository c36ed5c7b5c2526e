-- The ranges of the fixed-point types. They speak of numbers alone, so that the types' ghost fields can cite them.
use Rattle.std.specs.Prelude.{ℕ, ◌≤◌, List, [], ℤ, pos, ◌≤ℤ◌, unsigned_abs, slice_index_or}
use Rattle.fx_math.specs.Limits.{coordinate_limit, entry_limit, size_limit, focus_limit, row_limit}

-- z has a magnitude of at most m
pub record IsWithin (m : ℕ) (z : ℤ) : Type 0 where
  pub size : unsigned_abs z ≤ m

-- a coordinate: a whole number of 1/4096 unit
abbrev pub IsCoordinate : ℤ → Type 0
IsCoordinate z = IsWithin coordinate_limit z

-- an entry of a linear matrix: a whole number of 1/65536
abbrev pub IsEntry : ℤ → Type 0
IsEntry z = IsWithin entry_limit z

-- the three coordinates of a point
pub record AreCoordinates (x y z : ℤ) : Type 0 where
  pub x_within : IsCoordinate x
  pub y_within : IsCoordinate y
  pub z_within : IsCoordinate z

-- the number at place j of a row
abbrev pub entry : List ℤ → ℕ → ℤ
entry row j = slice_index_or row j (pos 0)

-- the row at place i of a matrix
abbrev pub row_at : List (List ℤ) → ℕ → List ℤ
row_at a i = slice_index_or a i []

-- the entries of one row
pub record IsRow (row : List ℤ) : Type 0 where
  pub first : IsEntry (entry row 0)
  pub second : IsEntry (entry row 1)
  pub third : IsEntry (entry row 2)

-- the nine entries of a linear matrix
pub record AreEntries (a : List (List ℤ)) : Type 0 where
  pub x_row : IsRow (row_at a 0)
  pub y_row : IsRow (row_at a 1)
  pub z_row : IsRow (row_at a 2)

-- the size of a picture, its focal length in pixels, and the depths between which it shows anything
pub record IsLens (w h f : ℕ) (near far : ℤ) : Type 0 where
  pub some_width : 1 ≤ w
  pub most_width : w ≤ size_limit
  pub some_height : 1 ≤ h
  pub most_height : h ≤ size_limit
  pub some_focus : 1 ≤ f
  pub most_focus : f ≤ focus_limit
  pub before_eye : pos 1 ≤ℤ near
  pub ordered : near ≤ℤ far
  pub most_far : far ≤ℤ pos coordinate_limit

-- three numbers, as `det` takes them
pub record AreSmall (row : List ℤ) : Type 0 where
  pub first : IsWithin row_limit (entry row 0)
  pub second : IsWithin row_limit (entry row 1)
  pub third : IsWithin row_limit (entry row 2)
