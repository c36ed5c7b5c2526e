-- The values of the code's constants, for specifications that have to name them.
use Rattle.std.specs.Prelude.{[], ◌∷◌, pos}
use Rattle.std.proofs.Common.{lit≤}
use Rattle.fx_math.specs.Within.{IsCoordinate, IsEntry}
use Rattle.fx_math.specs.declared.vectors.Vec3.{Vec3}
use Rattle.fx_math.specs.declared.matrices.Affine.{Affine}

-- `Vec3::ORIGIN`
abbrev pub origin_vector : Vec3
origin_vector = record {
  x = pos 0;
  y = pos 0;
  z = pos 0;
  in_range = record { x_within = none; y_within = none; z_within = none };
}
  where
    none : IsCoordinate (pos 0)
    none = record { size = lit≤ tt }

-- `Affine::IDENTITY`
abbrev pub identity_step : Affine
identity_step = record {
  a = (pos 65536 ∷ pos 0 ∷ pos 0 ∷ []) ∷ (pos 0 ∷ pos 65536 ∷ pos 0 ∷ []) ∷ (pos 0 ∷ pos 0 ∷ pos 65536 ∷ []) ∷ [];
  t = origin_vector;
  entries = record {
    x_row = record { first = one; second = none; third = none };
    y_row = record { first = none; second = one; third = none };
    z_row = record { first = none; second = none; third = one };
  };
}
  where
    none : IsEntry (pos 0)
    none = record { size = lit≤ tt }

    one : IsEntry (pos 65536)
    one = record { size = lit≤ tt }
