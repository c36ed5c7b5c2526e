-- The values of a face's functions at the pixels of a picture.
use Rattle.std.proofs.Common.{ℕ, ◌^◌, ◌<◌, arith, lit≤}
use Rattle.std.specs.Prelude.{pos}
use Rattle.fx_math.specs.Within.{IsWithin}
use Rattle.fx_math.specs.Limits.{size_limit}
use Rattle.fx_math.proofs.Size.{within_add, within_mul, within_more}
use Rattle.tri_cover.specs.declared.linear.Linear.{Linear}
use Rattle.tri_cover.specs.Linears.{value_at, IsNarrow}

-- a column or a row of a picture
pub place_within : (p : ℕ) → p < size_limit → IsWithin (2 ^ 10) (pos p)
place_within p h = record { size = omega arith }

pub two_within : IsWithin 2 (pos 2)
two_within = record { size = lit≤ tt }

-- an edge value is below 2^81 in magnitude
pub edge_value_within : (g : Linear) (px py : ℕ) → px < size_limit → py < size_limit → IsNarrow g → IsWithin (2 ^ 81) (value_at g px py)
edge_value_within g px py x y h =
    within_more (2 ^ 81)
    (within_add (within_add (within_mul (within_mul two_within h.a_within) (place_within px x)) (within_mul (within_mul two_within h.b_within) (place_within py y))) h.c_within)
    (lit≤ tt)
