-- The limits of the fixed-point numbers, and of what is reckoned from them.
use Rattle.std.specs.Prelude.{ℕ, ◌-◌, ◌*◌, ◌^◌}

-- the greatest magnitude of a coordinate, in 1/4096 unit
abbrev pub coordinate_limit : ℕ
coordinate_limit = 2 ^ 30 - 1

-- the greatest magnitude of an entry of a linear matrix, in 1/65536
abbrev pub entry_limit : ℕ
entry_limit = 2 ^ 20

-- the entry 1, which is also the greatest sine
abbrev pub unit : ℕ
unit = 2 ^ 16

-- a whole turn, in tenths of a degree
abbrev pub whole_turn : ℕ
whole_turn = 3600

-- the greatest width and height of a picture, in pixels
abbrev pub size_limit : ℕ
size_limit = 2 ^ 10

-- the greatest focal length, in pixels
abbrev pub focus_limit : ℕ
focus_limit = 2 ^ 16 - 1

-- the greatest magnitude of a product of a coordinate and an entry
abbrev pub product_limit : ℕ
product_limit = coordinate_limit * entry_limit

-- and of the sum of three such products
abbrev pub dot_limit : ℕ
dot_limit = 3 * product_limit

-- the greatest magnitude of a number in the rows of a determinant
abbrev pub row_limit : ℕ
row_limit = 2 ^ 31

-- of a difference of two products of such numbers
abbrev pub minor_limit : ℕ
minor_limit = 2 * row_limit ^ 2

-- of the product of that difference with a third number
abbrev pub term_limit : ℕ
term_limit = 2 * row_limit ^ 3

-- and of the determinant
abbrev pub det_limit : ℕ
det_limit = 6 * row_limit ^ 3
